-- Files that are read one after another.
use Rattle.std.proofs.Common.{◌≡◌, ℕ, List, [], ◌∷◌, ◌++◌, length, map, refl, ap, sym, subst, ◌∙◌, append_assoc, arith, Option, String, Global}
use Rattle.std.specs.String.{string_bytes}
use Rattle.dns_lookup_files.specs.Files.{AddsWords, HasWords, HaveWords, no_file, one_file}

module _ {O : Type 0} (files : O → Option (List ℕ → Option (List ℕ))) where
  -- the first of those that are left is read, and then the others
  first_read : (left later : List (String Global)) (name : String Global) (text : List ℕ) (words more : List (List ℕ)) (old mid new : O) → left ≡ name ∷ later → text ≡ string_bytes name
      → HasWords (files old) text words → HaveWords files (map string_bytes later) more mid new → HaveWords files (map string_bytes left) (words ++ more) old new
  first_read left later name text words more old mid new is reads h rest =
      let P : List (String Global) → Type 0 = λ ws. HaveWords files (map string_bytes ws) (words ++ more) old new in
      let Q : List ℕ → Type 0 = λ t. HasWords (files old) t words in
      subst P (sym is) (one_file (string_bytes name) (map string_bytes later) words more (words ++ more) old mid new (subst Q reads h) rest refl)

  pub goes_on : (all : List (List ℕ)) (start : O) (so after : List (List ℕ)) (left later : List (String Global)) (name : String Global) (text : List ℕ) (old mid : O)
      → ((more : List (List ℕ)) (new : O) → HaveWords files (map string_bytes left) more old new → HaveWords files all (so ++ more) start new)
      → left ≡ name ∷ later → text ≡ string_bytes name → AddsWords (files old) text so after
      → (more : List (List ℕ)) (new : O) → HaveWords files (map string_bytes later) more mid new → HaveWords files all (after ++ more) start new
  goes_on all start so after left later name text old mid follows is reads added more new rest =
      let P : List (List ℕ) → Type 0 = λ ws. HaveWords files all ws start new in
      subst P (sym (append_assoc so added.0 more) ∙ ap (λ (ws : List (List ℕ)). ws ++ more) (sym added.2))
      (follows (added.0 ++ more) new (first_read left later name text added.0 more old mid new is reads added.1 rest))

  pub none_left : (left : List (String Global)) (o : O) → length left ≡ 0 → HaveWords files (map string_bytes left) [] o o
  none_left [] o none = no_file o
  none_left (name ∷ left) o none = absurd (omega arith)
