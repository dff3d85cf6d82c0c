-- What a deed does in a system, from the calls that it makes.
use Rattle.std.proofs.Common.{◌≡◌, ℕ, zero, suc, ◌<◌, true, false, List, [], ◌∷◌, length, Option, None, Some, is_some, option_map, slice_get, slice_set, get_or, refl, ap, sym, subst, ◌∙◌, Vec, Global}
use Rattle.zone_list.specs.declared.listed.Listed.{Listed}
use Rattle.zone_refresh.specs.declared.kept.ZoneTimers.{ZoneTimers}
use Rattle.zone_refresh_run.specs.Acts.{Acts, listed_in}
use Rattle.zone_refresh_run.specs.Fetching.{BringsAt}
use Rattle.zone_refresh_run.specs.Keeping.{IsSame, NotesAt}
use Rattle.zone_refresh_run.specs.declared.keeper.Keeper.{Keeper}
use Rattle.zone_refresh_run.specs.declared.keeper.KeptFile.{KeptFile}
use Rattle.zone_refresh_run.specs.declared.words.KeptForm.{KeptForm}

pub notes_one : (old new : List KeptFile) (zone : ℕ) (timers : Option ZoneTimers) → is_some timers ≡ true → listed_in new ≡ listed_in old
    → (zone < length old → option_map (λ (file : KeptFile). file.has_zone) (slice_get new zone) ≡ Some true) → NotesAt old zone timers new
notes_one old new zone None some same noted = absurd (cc)
notes_one old new zone (Some timers) some same noted = (same, noted)

pub notes_none : (old new : List KeptFile) (zone : ℕ) (timers : Option ZoneTimers) → is_some timers ≡ false → new ≡ old → NotesAt old zone timers new
notes_none old new zone None some same = same
notes_none old new zone (Some timers) some same = absurd (cc)

module _ {S : Type 0} (old mid new : Keeper S) (zone : ℕ) (timers : Option ZoneTimers) (same : IsSame old mid) where
  pub fetched_notes : is_some timers ≡ true → listed_in new.files.items ≡ listed_in mid.files.items
      → (zone < length mid.files.items → option_map (λ (file : KeptFile). file.has_zone) (slice_get new.files.items zone) ≡ Some true) → (new.form ≡ mid.form) × (new.said ≡ mid.said)
      → NotesAt old.files.items zone timers new.files.items × (new.form ≡ old.form) × (new.said ≡ old.said)
  fetched_notes some listed noted rest = (
    notes_one old.files.items new.files.items zone timers some (listed ∙ ap (λ (v : Vec KeptFile Global). listed_in v.items) same.0)
        (λ within. noted (subst (λ (v : Vec KeptFile Global). zone < length v.items) (sym same.0) within)),
    rest.0 ∙ same.1,
    rest.1 ∙ same.2,
  )

  pub missed_notes : is_some timers ≡ false → NotesAt old.files.items zone timers mid.files.items × (mid.form ≡ old.form) × (mid.said ≡ old.said)
  missed_notes none = (notes_none old.files.items mid.files.items zone timers none (ap (λ (v : Vec KeptFile Global). v.items) same.0), same.1, same.2)

-- the list stays as it was where one file is noted
pub noted_listed : (files : List KeptFile) (zone : ℕ) (d new : KeptFile) → new.listed ≡ (get_or files zone d).listed → listed_in (slice_set files zone new) ≡ listed_in files
noted_listed [] zone d new same = refl
noted_listed (f ∷ files) zero d new same = ap (λ (l : Listed). l ∷ listed_in files) same
noted_listed (f ∷ files) (suc n) d new same = ap (λ (ls : List Listed). f.listed ∷ ls) (noted_listed files n d new same)

-- what was brought, by a system that did nothing more
pub brought_by : {S : Type 0} (acts : S → Acts) (files : List KeptFile) (form : KeptForm) (zone primary : ℕ) (timers : Option ZoneTimers) (old : Acts) (mid new : S) → mid ≡ new
    → BringsAt files form zone primary timers old (acts mid) → BringsAt files form zone primary timers old (acts new)
brought_by {S} acts files form zone primary timers old mid new same brings = subst (λ (s : S). BringsAt files form zone primary timers old (acts s)) same brings
