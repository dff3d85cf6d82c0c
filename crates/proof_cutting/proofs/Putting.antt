-- A connection with longer octets is taken out of its tables, and put back, as the one of before is.
use Rattle.std.proofs.Common.{◌≡◌, ℕ, Bool, true, false, if◌then◌else◌, Option, Some, None, List, [], ◌∷◌, length, refl, sym, ap, ap₂, subst, ◌∙◌}
use Rattle.std.specs.Prelude.{◌==◌, ◌&&◌, not, option_map, option_and_then}
use Rattle.client_request.specs.Numbered.{puts, frees, entry_at}
use Rattle.client_request.specs.Request.{Request}
use Rattle.client_request.specs.View.{Transport}
use Rattle.client_stream.specs.Plain.{Asked, has_ended, timer_at}
use Rattle.client_multi.specs.Links.{Link}
use Rattle.client_multi.specs.MultiStream.{newest, with_room, keeps, taken, with_connection, unwatched, watched}
use Rattle.proof_parts.proofs.Tables.{at_frees}
use Rattle.proof_cutting.specs.Standing.{StreamTables, link_octets, longer_link, longer_entry, longer_tables}
use Rattle.proof_cutting.proofs.Fitting.{Fits, over, back, put, entry_back, itself, is_same}
use Rattle.proof_cutting.proofs.Links.{longer_line, longer_place, longer_there}
use Rattle.proof_cutting.proofs.Longer.{either_way, entry_here, entry_there, frees_here, frees_there, puts_here, puts_there, longer_absent, sorted_longer}

-- the octets that stand at a place in tables
abbrev pub tables_octets : (place : ℕ) → StreamTables → Option (List ℕ)
tables_octets place t = option_and_then (link_octets place) (entry_at place t.connections)

module _ (calls : Transport Request (Link Request) Asked) (place : ℕ) where
  ended_octets : (d : Link Request) → option_and_then (link_octets place) (back calls d) ≡ link_octets place d
  ended_octets d = go (has_ended d.line.stage) refl
    where
      go : (b : Bool) → has_ended d.line.stage ≡ b → option_and_then (link_octets place) (if b then None else Some d) ≡ link_octets place d
      go true e = sym (ap (λ b. if (d.place == place) && not b then Some d.octets else None) e ∙ either (d.place == place))
        where
          either : (b : Bool) → (if b && false then Some d.octets else None) ≡ None
          either true = refl
          either false = refl
      go false e = refl

  pub octets_back : (p : ℕ) (c : Link Request) (s : StreamTables) (n : ℕ) → Fits s.connections s.watches n → entry_at p s.connections ≡ Some c → (d : Link Request)
      → tables_octets place (put calls p c d s) ≡ (if p == place then link_octets place d else tables_octets place s)
  octets_back p c s n fits at d =
      ap (option_and_then (link_octets place)) (entry_back calls p c s n fits at d place)
      ∙ either_way (option_and_then (link_octets place)) (p == place) (back calls d) (entry_at place s.connections)
      ∙ ap (λ o. if p == place then o else tables_octets place s) (ended_octets d)

  module _ (piece : List ℕ) where
    abbrev long : StreamTables → StreamTables
    long t = longer_tables place piece t

    abbrev longer : Link Request → Link Request
    longer l = longer_link place piece l

    -- the newest that has room is the same one
    same_room : (l : Link Request) → (length (longer l).line.held.held == 32768) ≡ (length l.line.held.held == 32768)
    same_room l = ap (λ t. length t.held.held == 32768) (longer_line piece place l)

    pub newest_longer : (found : Option ℕ) (es : List (ℕ × Link Request)) → newest (over calls) found (longer_entry place piece es) ≡ newest (over calls) found es
    newest_longer found [] = refl
    newest_longer found (e ∷ es) = by (e.0 == place) (newest_longer (if length e.1.line.held.held == 32768 then found else Some e.0) es)
      where
        by : (b : Bool) → newest (over calls) (if length e.1.line.held.held == 32768 then found else Some e.0) (longer_entry place piece es) ≡ newest (over calls) (if length e.1.line.held.held == 32768 then found else Some e.0) es
            → newest (over calls) found (if b then (e.0, longer e.1) ∷ es else e ∷ longer_entry place piece es) ≡ newest (over calls) (if length e.1.line.held.held == 32768 then found else Some e.0) es
        by true ih = ap (λ b. newest (over calls) (if b then found else Some e.0) es) (same_room e.1)
        by false ih = ih

    module _ (s : StreamTables) (n : ℕ) (fits : Fits s.connections s.watches n) where
      -- each entry of the longer table
      pub entry_longer : (p : ℕ) → entry_at p (longer_entry place piece s.connections) ≡ option_map longer (entry_at p s.connections)
      entry_longer p = go (p == place) refl
        where
          there : (p == place) ≡ false → (o : Option (Link Request)) → entry_at p s.connections ≡ o → o ≡ option_map longer o
          there other None e = refl
          there other (Some l) e = ap Some (sym (longer_there piece place l (ap (λ n. n == place) (let x = fits.placed p l e in x.0) ∙ other)))

          go : (b : Bool) → (p == place) ≡ b → entry_at p (longer_entry place piece s.connections) ≡ option_map longer (entry_at p s.connections)
          go true e = subst (λ p. entry_at p (longer_entry place piece s.connections) ≡ option_map longer (entry_at p s.connections)) (sym (is_same p place e)) (entry_here place piece s.connections)
          go false e = entry_there place piece p s.connections e ∙ there e (entry_at p s.connections) refl

      freed : (p : ℕ) → entry_at p (frees p s.connections) ≡ None
      freed p = let r = fits.connections in at_frees p p 0 r.0 s.connections r.1 ∙ ap (λ b. if b then None else entry_at p s.connections) (itself p)

      frees_longer : (p : ℕ) → frees p (longer_entry place piece s.connections) ≡ longer_entry place piece (frees p s.connections)
      frees_longer p = go (p == place) refl
        where
          go : (b : Bool) → (p == place) ≡ b → frees p (longer_entry place piece s.connections) ≡ longer_entry place piece (frees p s.connections)
          go true e = subst (λ p. frees p (longer_entry place piece s.connections) ≡ longer_entry place piece (frees p s.connections)) (sym (is_same p place e))
              (frees_here place piece s.connections ∙ sym (longer_absent place piece (frees place s.connections) (freed place)))
          go false e = frees_there place piece p s.connections e

      pub taken_longer : (p : ℕ) (c : Link Request) → taken (over calls) p (longer c) (long s) ≡ long (taken (over calls) p c s)
      taken_longer p c =
          ap₂ (λ (es : List (ℕ × Link Request)) (ws : List (ℕ × ℕ)). record s { connections = es; watches = ws }) (frees_longer p)
          (ap (λ t. unwatched (timer_at t.stage) s.watches) (longer_line piece place c))

      puts_longer : (p : ℕ) (d : Link Request) → d.place ≡ p → puts p (longer d) (longer_entry place piece (frees p s.connections)) ≡ longer_entry place piece (puts p d (frees p s.connections))
      puts_longer p d is_at = go (p == place) refl
        where
          go : (b : Bool) → (p == place) ≡ b → puts p (longer d) (longer_entry place piece (frees p s.connections)) ≡ longer_entry place piece (puts p d (frees p s.connections))
          go true e = subst (λ p. puts p (longer d) (longer_entry place piece (frees p s.connections)) ≡ longer_entry place piece (puts p d (frees p s.connections))) (sym (is_same p place e))
              (ap (puts place (longer d)) (longer_absent place piece (frees place s.connections) (freed place)) ∙ puts_here place piece d (frees place s.connections))
          go false e = ap (λ d. puts p d (longer_entry place piece (frees p s.connections))) (longer_there piece place d (ap (λ n. n == place) is_at ∙ e)) ∙ puts_there place piece p d (frees p s.connections) e

      pub put_longer : (p : ℕ) (c d : Link Request) → d.place ≡ p → put calls p (longer c) (longer d) (long s) ≡ long (put calls p c d s)
      put_longer p c d is_at =
          ap (λ t. with_connection (over calls) p (longer d) t) (taken_longer p c)
          ∙ ap (λ t. if has_ended t.stage then long (taken (over calls) p c s) else keeps (over calls) p (longer d) (long (taken (over calls) p c s))) (longer_line piece place d)
          ∙ go (has_ended d.line.stage)
        where
          kept : keeps (over calls) p (longer d) (long (taken (over calls) p c s)) ≡ long (keeps (over calls) p d (taken (over calls) p c s))
          kept =
              ap₂ (λ (es : List (ℕ × Link Request)) (ws : List (ℕ × ℕ)). record s { connections = es; watches = ws }) (puts_longer p d is_at)
              (ap (λ t. watched p (timer_at t.stage) (unwatched (timer_at c.line.stage) s.watches)) (longer_line piece place d))

          go : (b : Bool) → (if b then long (taken (over calls) p c s) else keeps (over calls) p (longer d) (long (taken (over calls) p c s))) ≡ long (if b then taken (over calls) p c s else keeps (over calls) p d (taken (over calls) p c s))
          go true = refl
          go false = kept

      -- tables are fit with longer octets
      pub fits_longer : Fits (long s).connections s.watches n
      fits_longer = record {
        connections = (let r = fits.connections in (r.0, sorted_longer place piece 0 r.0 s.connections r.1));
        watches = fits.watches;
        placed = λ p l e. by p l (entry_at p s.connections) refl (sym (entry_longer p) ∙ e);
        watched = λ p l i e t. timed p l i (entry_at p s.connections) refl (sym (entry_longer p) ∙ e) t;
      }
        where
          by : (p : ℕ) (l : Link Request) (o : Option (Link Request)) → entry_at p s.connections ≡ o → option_map longer o ≡ Some l → (l.place ≡ p) × (has_ended l.line.stage ≡ false)
          by p l None e is = absurd (cc)
          by p l (Some c) e is =
              let same : longer c ≡ l = cc in
              let x = fits.placed p c e in
              subst (λ (l : Link Request). (l.place ≡ p) × (has_ended l.line.stage ≡ false)) same (longer_place piece place c ∙ x.0, ap (λ t. has_ended t.stage) (longer_line piece place c) ∙ x.1)

          timed : (p : ℕ) (l : Link Request) (i : ℕ) (o : Option (Link Request)) → entry_at p s.connections ≡ o → option_map longer o ≡ Some l → timer_at l.line.stage ≡ Some i → entry_at i s.watches ≡ Some p
          timed p l i None e is t = absurd (cc)
          timed p l i (Some c) e is t =
              let same : longer c ≡ l = cc in
              fits.watched p c i e (sym (ap (λ t. timer_at t.stage) (longer_line piece place c)) ∙ ap (λ (l : Link Request). timer_at l.line.stage) same ∙ t)

      pub room_longer : with_room (over calls) (long s).connections ≡ option_map (λ (f : ℕ × Link Request). (f.0, longer f.1)) (with_room (over calls) s.connections)
      room_longer = ap (λ o. option_and_then (found (long s).connections) o) (newest_longer None s.connections) ∙ go (newest (over calls) None s.connections)
        where
          found : List (ℕ × Link Request) → ℕ → Option (ℕ × Link Request)
          found es p = option_map (λ c. (p, c)) (entry_at p es)

          go : (o : Option ℕ) → option_and_then (found (long s).connections) o ≡ option_map (λ (f : ℕ × Link Request). (f.0, longer f.1)) (option_and_then (found s.connections) o)
          go None = refl
          go (Some p) = ap (option_map {U = ℕ × Link Request} (λ c. (p, c))) (entry_longer p) ∙ by (entry_at p s.connections)
            where
              by : (o : Option (Link Request)) → option_map {U = ℕ × Link Request} (λ c. (p, c)) (option_map longer o) ≡ option_map (λ (f : ℕ × Link Request). (f.0, longer f.1)) (option_map (λ c. (p, c)) o)
              by None = refl
              by (Some c) = refl
