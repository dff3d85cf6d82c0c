-- The text of a zone, as it is written.
use Rattle.std.proofs.Common.{◌≡◌, ◌≢◌, ◌≤◌, ◌<◌, ℕ, ◌+◌, List, [], ◌∷◌, ◌++◌, false, refl, ap, sym, subst, ◌∙◌, arith, append_assoc, drop, get_or, length, take, Option, None, Some}
use Rattle.std.specs.Prelude.{IfSome}
use Rattle.std.proofs.Math.Seq.{take-append_seam}
use Rattle.std.proofs.lemmas.List.{take-append-drop, take_more}
use Rattle.dns_values.specs.Sink.{with_octets}
use Rattle.dns_values.specs.Source.{Rose, last_count}
use Rattle.dns_presentation.specs.Octets.{hex_text}
use Rattle.zone_records.specs.declared.record.ZoneRecord.{ZoneRecord}
use Rattle.zone_text.specs.Lines.{IsText, PutsLine, Writes, WritesFront, data_text, front_text, has_feed, in_line, line_more, line_text, no_line}

put_together : (before front shown sep hex end : List ℕ) → ((((before ++ front) ++ shown) ++ sep) ++ hex) ++ end ≡ (before ++ ((front ++ shown) ++ (sep ++ hex))) ++ end
put_together before front shown sep hex end =
    ap (λ (x : List ℕ). x ++ end)
    (ap (λ (x : List ℕ). (x ++ sep) ++ hex) (append_assoc before front shown) ∙ (append_assoc (before ++ (front ++ shown)) sep hex ∙ append_assoc before (front ++ shown) (sep ++ hex)))

pub line_put : (item : ZoneRecord) (before front shown a b c d after : List ℕ) → front ≡ front_text item → IfSome (data_text item) (λ text. shown ≡ in_line item.rdata text) → has_feed shown ≡ false
    → a ≡ before ++ front → b ≡ a ++ shown → c ≡ b ++ (32 ∷ 59 ∷ 32 ∷ []) → d ≡ c ++ hex_text item.rdata → after ≡ d ++ 10 ∷ [] → PutsLine item before after
line_put item before front shown a b c d after f s n ea eb ec ed ee = record {
  line = line_text shown item;
  is_line = record { shown = shown; shown_is = s; no_feed = n; line_is = refl };
  after_is =
      ee ∙ (ap (λ (x : List ℕ). x ++ 10 ∷ []) (ed ∙ ap (λ (x : List ℕ). x ++ hex_text item.rdata) (ec ∙ ap (λ (x : List ℕ). x ++ (32 ∷ 59 ∷ 32 ∷ [])) (eb ∙ ap (λ (x : List ℕ). x ++ shown) (ea ∙ ap (λ (x : List ℕ). before ++ x) f))))
      ∙ put_together before (front_text item) shown (32 ∷ 59 ∷ 32 ∷ []) (hex_text item.rdata) (10 ∷ []));
}

pub text_more : (items : List ZoneRecord) (item : ZoneRecord) (text after : List ℕ) → IsText items text → PutsLine item text after → IsText (items ++ item ∷ []) after
text_more items item text after no_line puts = subst (IsText (item ∷ [])) (sym puts.after_is) (line_more item [] puts.line [] puts.is_line no_line)
text_more items item text after (line_more i is line rest is_line more) puts =
    let longer : IsText (is ++ item ∷ []) (rest ++ puts.line ++ 10 ∷ []) = text_more is item rest (rest ++ puts.line ++ 10 ∷ []) more (record { line = puts.line; is_line = puts.is_line; after_is = refl }) in
    let whole : after ≡ line ++ 10 ∷ (rest ++ puts.line ++ 10 ∷ []) = puts.after_is ∙ simp append_assoc in
    subst (IsText (i ∷ (is ++ item ∷ []))) (sym whole) (line_more i (is ++ item ∷ []) line (rest ++ puts.line ++ 10 ∷ []) is_line longer)

pub none_written : (text : List ℕ) → text ≡ [] → IsText [] text
none_written text none = subst (IsText []) (sym none) no_line

pub text_taken : (xs : List ZoneRecord) (i : ℕ) (x : ZoneRecord) (text after : List ℕ) → i < length xs → get_or xs i x ≡ x → IsText (take i xs) text → PutsLine x text after → IsText (take (i + 1) xs) after
text_taken xs i x text after l e is puts =
    subst (λ (ys : List ZoneRecord). IsText ys after) (sym (take_more xs i x l ∙ ap (λ (y : ZoneRecord). take i xs ++ y ∷ []) e)) (text_more (take i xs) x text after is puts)

pub texts_joined : (xs ys : List ZoneRecord) (a b : List ℕ) → IsText xs a → IsText ys b → IsText (xs ++ ys) (a ++ b)
texts_joined xs ys a b no_line more = more
texts_joined xs ys a b (line_more x tail line rest is_line others) more =
    let longer : IsText (tail ++ ys) (rest ++ b) = texts_joined tail ys rest b others more in
    subst (IsText (x ∷ (tail ++ ys))) (sym (append_assoc line (10 ∷ rest) b)) (line_more x (tail ++ ys) line (rest ++ b) is_line longer)

then_more : (xs ys : List ℕ) (held : Option (List ℕ)) → with_octets ys (with_octets xs held) ≡ with_octets (xs ++ ys) held
then_more xs ys None = refl
then_more xs ys (Some zs) = ap Some (append_assoc zs xs ys)

nil_right : (xs : List ℕ) → xs ++ [] ≡ xs
nil_right [] = refl
nil_right (x ∷ xs) = ap (λ (ys : List ℕ). x ∷ ys) (nil_right xs)

nothing_more : (held : Option (List ℕ)) → held ≡ with_octets [] held
nothing_more None = refl
nothing_more (Some xs) = ap Some (sym (nil_right xs))

-- Of all records some are written, and these are left.
pub record SoFar (all left : List ZoneRecord) (before now : Option (List ℕ)) : Type 0 where
  pub done : List ZoneRecord
  pub all_are : done ++ left ≡ all
  pub writes : Writes done before now

pub none_yet : (all : List ZoneRecord) (held : Option (List ℕ)) → SoFar all all held held
none_yet all held = record { done = []; all_are = refl; writes = record { text = []; is_text = no_line; after_is = nothing_more held } }

pub piece_more : (all left rest piece : List ZoneRecord) (before now after : Option (List ℕ)) (text : List ℕ) → left ≡ piece ++ rest → IsText piece text → after ≡ with_octets text now → SoFar all left before now
    → SoFar all rest before after
piece_more all left rest piece before now after text parts is_text more so_far = record {
  done = so_far.done ++ piece;
  all_are = append_assoc so_far.done piece rest ∙ (ap (λ (xs : List ZoneRecord). so_far.done ++ xs) (sym parts) ∙ so_far.all_are);
  writes = record {
    text = so_far.writes.text ++ text;
    is_text = texts_joined so_far.done piece so_far.writes.text text so_far.writes.is_text is_text;
    after_is = more ∙ (ap (with_octets text) so_far.writes.after_is ∙ then_more so_far.writes.text text before);
  };
}

records_nil : (xs : List ZoneRecord) → xs ++ [] ≡ xs
records_nil [] = refl
records_nil (x ∷ xs) = ap (λ (ys : List ZoneRecord). x ∷ ys) (records_nil xs)

pub all_written : (all left : List ZoneRecord) (before now : Option (List ℕ)) → left ≡ [] → SoFar all left before now → Writes all before now
all_written all left before now none so_far =
    let whole : so_far.done ≡ all = sym (records_nil so_far.done) ∙ (ap (λ (xs : List ZoneRecord). so_far.done ++ xs) (sym none) ∙ so_far.all_are) in
    subst (λ (xs : List ZoneRecord). Writes xs before now) whole so_far.writes

-- ---- the first octets

take_front : (front behind whole : List ℕ) → front ++ behind ≡ whole → take (length front) whole ≡ front
take_front front behind whole is = ap (take (length front)) (sym is) ∙ take-append_seam front behind

pub front_so_far : (all left : List ZoneRecord) (before now after : Option (List ℕ)) → after ≡ now → SoFar all left before now → WritesFront all before after
front_so_far all left before now after same so_far = record {
  first = so_far.done;
  behind = left;
  records_are = sym so_far.all_are;
  text = so_far.writes.text;
  is_text = so_far.writes.is_text;
  count = length so_far.writes.text;
  after_is = same ∙ (so_far.writes.after_is ∙ ap (λ (xs : List ℕ). with_octets xs before) (sym (take_front so_far.writes.text [] so_far.writes.text (nil_right so_far.writes.text))));
}

pub front_in_piece : (all left rest piece : List ZoneRecord) (before now after : Option (List ℕ)) (text : List ℕ) → left ≡ piece ++ rest → IsText piece text → ((n : ℕ) × (after ≡ with_octets (take n text) now)) → SoFar all left before now
    → WritesFront all before after
front_in_piece all left rest piece before now after text parts is_text front so_far =
    let done = so_far.writes.text in
    let first = take front.0 text in
    let cut : (done ++ first) ++ drop front.0 text ≡ done ++ text = append_assoc done first (drop front.0 text) ∙ ap (λ (xs : List ℕ). done ++ xs) (take-append-drop front.0 text) in
    record {
      first = so_far.done ++ piece;
      behind = rest;
      records_are = sym (append_assoc so_far.done piece rest ∙ (ap (λ (xs : List ZoneRecord). so_far.done ++ xs) (sym parts) ∙ so_far.all_are));
      text = done ++ text;
      is_text = texts_joined so_far.done piece done text so_far.writes.is_text is_text;
      count = length (done ++ first);
      after_is =
          front.1 ∙ (ap (with_octets first) so_far.writes.after_is ∙ (then_more done first before ∙ ap (λ (xs : List ℕ). with_octets xs before) (sym (take_front (done ++ first) (drop front.0 text) (done ++ text) cut))));
    }

pub rose_later : (a b c : ℕ) → a ≤ b → Rose b c → Rose a c
rose_later a b c h r = (let x : b ≤ c = r.0 in omega arith, λ e. above e)
  where
    above : a ≢ last_count → a < c
    above e = grind arith
