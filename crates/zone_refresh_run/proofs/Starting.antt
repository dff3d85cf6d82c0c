-- Zones that begin to be kept, one more at a time.
use Rattle.std.proofs.Common.{◌≡◌, ℕ, ◌+◌, Bool, List, [], ◌∷◌, ◌++◌, Option, map, is_some, length, refl, ap, sym, subst, ◌∙◌, append_assoc, length-append, arith}
use Rattle.std.proofs.lemmas.List.{map-append}
use Rattle.zone_list.specs.declared.listed.Listed.{Listed}
use Rattle.zone_refresh.specs.declared.kept.KeptZone.{KeptZone}
use Rattle.zone_refresh.specs.declared.kept.ZoneTimers.{ZoneTimers}
use Rattle.zone_refresh_run.specs.Acts.{Acts, AreStarted, StartAll, Starts, Tells, after_act, all_started, did_read, listed_in, started}
use Rattle.zone_refresh_run.specs.Sentences.{kept_sentence}
use Rattle.zone_refresh_run.specs.declared.keeper.KeptFile.{KeptFile}
use Rattle.zone_refresh_run.proofs.Deeds.{append_nil}

-- the first of a list, before these
pub record StartedSo (listed rest : List Listed) (now : ℕ) (zones : List KeptZone) (files : List KeptFile) (old new : Acts) : Type 0 where
  pub same : listed_in files ++ rest ≡ listed
  pub many : length zones ≡ length (listed_in files)
  pub zones_begin : zones ≡ all_started (listed_in files) now zones
  pub have : map (λ (file : KeptFile). file.has_zone) files ≡ map (λ (zone : KeptZone). is_some zone.held) zones
  pub acts : StartAll (listed_in files) zones old new

pub none_started : (listed : List Listed) (now : ℕ) (acts : Acts) → StartedSo listed listed now [] [] acts acts
none_started listed now acts = record { same = refl; many = refl; zones_begin = refl; have = refl; acts = refl }

-- one is read and told of behind others
acts_more : (items : List Listed) (item : Listed) (zones : List KeptZone) (zone : KeptZone) (a b c : Acts) → length zones ≡ length items → StartAll items zones a b → Starts item zone.held b c
    → StartAll (items ++ item ∷ []) (zones ++ zone ∷ []) a c
acts_more [] item [] zone a b c many before starts = (c, subst (λ (x : Acts). Starts item zone.held x c) before starts, refl)
acts_more [] item (z ∷ zones) zone a b c many before starts = absurd (omega (arith, many))
acts_more (i ∷ items) item [] zone a b c many before starts = absurd before
acts_more (i ∷ items) item (z ∷ zones) zone a b c many before starts =
    let fewer : length zones ≡ length items = omega (arith, many) in
    (before.0, before.1, acts_more items item zones zone before.0 b c fewer before.2 starts)

-- one more of as many
started_more : (items : List Listed) (item : Listed) (now : ℕ) (zones : List KeptZone) (zone : KeptZone) → length zones ≡ length items → zone ≡ started item now zone.held
    → zones ≡ all_started items now zones → zones ++ zone ∷ [] ≡ all_started (items ++ item ∷ []) now (zones ++ zone ∷ [])
started_more [] item now [] zone many is before = ap (λ (z : KeptZone). z ∷ []) is
started_more [] item now (z ∷ zones) zone many is before = absurd (omega (arith, many))
started_more (i ∷ items) item now [] zone many is before = absurd (omega (arith, many))
started_more (i ∷ items) item now (z ∷ zones) zone many is before =
    let front : z ≡ started i now z.held = let e = before in cc in
    let behind : zones ≡ all_started items now zones = let e = before in cc in
    let fewer : length zones ≡ length items = omega (arith, many) in
    ap (λ (y : KeptZone). y ∷ zones ++ zone ∷ []) front ∙ ap (λ (ys : List KeptZone). started i now z.held ∷ ys) (started_more items item now zones zone fewer is behind)

pub one_started : (listed left rest : List Listed) (item : Listed) (now : ℕ) (zones : List KeptZone) (files : List KeptFile) (zone : KeptZone) (file : KeptFile) (a b c : Acts) → StartedSo listed left now zones files a b
    → left ≡ item ∷ rest → zone ≡ started item now zone.held → file ≡ record { listed = item; has_zone = is_some zone.held } → Starts item zone.held b c → StartedSo listed rest now (zones ++ zone ∷ []) (files ++ file ∷ []) a c
one_started listed left rest item now zones files zone file a b c so is begins made starts =
    let own : listed_in (files ++ file ∷ []) ≡ listed_in files ++ item ∷ [] =
    map-append (λ (f : KeptFile). f.listed) files (file ∷ []) ∙ ap (λ (f : KeptFile). listed_in files ++ f.listed ∷ []) made in
    let had : map (λ (f : KeptFile). f.has_zone) (files ++ file ∷ []) ≡ map (λ (f : KeptFile). f.has_zone) files ++ is_some zone.held ∷ [] =
    map-append (λ (f : KeptFile). f.has_zone) files (file ∷ []) ∙ ap (λ (f : KeptFile). map (λ (g : KeptFile). g.has_zone) files ++ f.has_zone ∷ []) made in
    record {
      same =
          ap (λ (ls : List Listed). ls ++ rest) own
          ∙ append_assoc (listed_in files) (item ∷ []) rest
          ∙ ap (λ (ls : List Listed). listed_in files ++ ls) (sym is)
          ∙ so.same;
      many =
          length-append zones (zone ∷ [])
          ∙ ap (λ (n : ℕ). n + 1) so.many
          ∙ sym (length-append (listed_in files) (item ∷ []))
          ∙ ap length (sym own);
      zones_begin =
          started_more (listed_in files) item now zones zone so.many begins so.zones_begin
          ∙ ap (λ (ls : List Listed). all_started ls now (zones ++ zone ∷ [])) (sym own);
      have =
          had
          ∙ ap (λ bs. bs ++ is_some zone.held ∷ []) so.have
          ∙ sym (map-append (λ (z : KeptZone). is_some z.held) zones (zone ∷ []));
      acts = subst (λ (ls : List Listed). StartAll ls (zones ++ zone ∷ []) a c) (sym own) (acts_more (listed_in files) item zones zone a b c so.many so.acts starts);
    }

pub one_more_started : (listed left rest : List Listed) (item : Listed) (now : ℕ) (zones zones_after : List KeptZone) (files files_after : List KeptFile) (zone : KeptZone) (flag : Bool) (a b c : Acts)
    → StartedSo listed left now zones files a b → left ≡ item ∷ rest → zone ≡ started item now zone.held → Starts item zone.held b c → zones_after ≡ zones ++ zone ∷ []
    → files_after ≡ files ++ record { listed = item; has_zone = flag } ∷ [] → flag ≡ is_some zone.held → StartedSo listed rest now zones_after files_after a c
one_more_started listed left rest item now zones zones_after files files_after zone flag a b c so is begins starts more_zones more_files has =
    subst (λ (zs : List KeptZone). StartedSo listed rest now zs files_after a c) (sym more_zones)
    (subst (λ (fs : List KeptFile). StartedSo listed rest now (zones ++ zone ∷ []) fs a c) (sym more_files)
    (one_started listed left rest item now zones files zone (record { listed = item; has_zone = flag }) a b c so is begins (ap (λ (f : Bool). record { listed = item; has_zone = f }) has) starts))

pub all_are_started : (listed left : List Listed) (now : ℕ) (zones : List KeptZone) (files : List KeptFile) (old new : Acts) → StartedSo listed left now zones files old new → left ≡ [] → AreStarted listed now zones files old new
all_are_started listed left now zones files old new so none =
    let same : listed_in files ≡ listed = sym (append_nil (listed_in files)) ∙ ap (λ (ls : List Listed). listed_in files ++ ls) (sym none) ∙ so.same in
    record {
      same = same;
      zones_begin = so.zones_begin ∙ ap (λ (ls : List Listed). all_started ls now zones) same;
      have = so.have;
      acts = subst (λ (ls : List Listed). StartAll ls zones old new) same so.acts;
    }

-- how one begins, from the calls that are made
pub starts_so : (listed : Listed) (file : List ℕ) (held got : Option ZoneTimers) (a b c : Acts) → file ≡ listed.file → got ≡ held → b ≡ after_act (did_read listed.zone file held) a
    → Tells (kept_sentence listed held) b c → Starts listed got a c
starts_so listed file held got a b c same is read told = record {
  mid = b;
  read = read ∙ ap (λ (p : List ℕ). after_act (did_read listed.zone p held) a) same ∙ ap (λ (h : Option ZoneTimers). after_act (did_read listed.zone listed.file h) a) (sym is);
  told = subst (λ (h : Option ZoneTimers). Tells (kept_sentence listed h) b c) (sym is) told;
}
