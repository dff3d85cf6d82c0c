-- What is written of a line.
use Rattle.std.proofs.Common.{◌≡◌, ◌⊎◌, inl, inr, ℕ, List, Option, None, Some, subst, sym}
use Rattle.std.specs.Prelude.{IfSome}
use Rattle.command_parts.specs.Ends.{IsBegun, IsSaid}
use Rattle.dnsq_run.specs.Program.{IsRefused, StopsForNumbers, IsLeft, RanOut, RefusalIsSaid, is_refusal, numbers_line, stops, usage_line}
use Rattle.dnsq_run.specs.declared.query_words.Query.{Query}
use Rattle.dnsq_run.specs.declared.usage.Command.{Command}
use Rattle.dnsq_run.proofs.Outcomes.{asked_for}

-- with what a text is told to be, what is written of it is told
told_with : (told : Option (List ℕ)) (P Q : List ℕ → Type 0) → ((text : List ℕ) → P text → Q text) → IfSome told P → IfSome told Q
told_with None P Q f h = h
told_with (Some text) P Q f h = f text h

abbrev pub Saying : Option (List ℕ) → (before after : Option (List ℕ)) → (faults faults_after : ℕ) → Command → Type 0
Saying told before after faults faults_after command = IfSome told (λ text. RefusalIsSaid command text before after faults faults_after)

pub refusal_said : (asked : Option Command) (command : Command) (told before after : Option (List ℕ)) (faults faults_after : ℕ) (line : List ℕ)
    → asked ≡ Some command
    → IfSome told (λ text. IsRefused command text line)
    → IsSaid line before after faults faults_after
    → IfSome asked (Saying told before after faults faults_after)
refusal_said asked command told before after faults faults_after line is h said =
    asked_for asked command (Saying told before after faults faults_after) is
    (told_with told (λ text. IsRefused command text line) (λ text. RefusalIsSaid command text before after faults faults_after) (λ text r. record { line = line; refusal = r; said = said }) h)

ran_out : (asked : Option Command) (query : Option Query) (count : Option ℕ) (command : Command) (told before after : Option (List ℕ)) → asked ≡ Some command
    → (after ≡ before) ⊎ IfSome told (λ text. IsLeft command text before after) → RanOut asked query count told before after
ran_out asked query count command told before after is h = subst (λ (o : Option Command). RanOut o query count told before after) (sym is) h

pub nothing_left : (asked : Option Command) (query : Option Query) (count : Option ℕ) (command : Command) (told before after : Option (List ℕ)) → asked ≡ Some command
    → after ≡ before → RanOut asked query count told before after
nothing_left asked query count command told before after is same = ran_out asked query count command told before after is (inl same)

pub other_left : (asked : Option Command) (query : Option Query) (count : Option ℕ) (told before after : Option (List ℕ)) → asked ≡ None → count ≡ None
    → RanOut None query None told before after → RanOut asked query count told before after
other_left asked query count told before after is none left =
    subst (λ (o : Option Command). RanOut o query count told before after) (sym is) (subst (λ (n : Option ℕ). RanOut None query n told before after) (sym none) left)

-- of words that are no command, and no query or one
pub usage_left : (query : Option Query) (told before after : Option (List ℕ)) → query ≡ None → IsBegun usage_line before after → RanOut None query None told before after
usage_left query told before after is begun = subst (λ (o : Option Query). RanOut None o None told before after) (sym is) (inr begun)

pub none_left : (query : Option Query) (told before after : Option (List ℕ)) → after ≡ before → RanOut None query None told before after
none_left None told before after same = inl same
none_left (Some query) told before after same = tt

pub query_left : (query : Option Query) (q : Query) (told before after : Option (List ℕ)) → query ≡ Some q → RanOut None query None told before after
query_left query q told before after is = subst (λ (o : Option Query). RanOut None o None told before after) (sym is) tt

-- of words that ask for a count it is told elsewhere
pub count_left : (asked : Option Command) (query : Option Query) (count : Option ℕ) (n : ℕ) (told before after : Option (List ℕ)) → asked ≡ None → query ≡ None → count ≡ Some n
    → RanOut asked query count told before after
count_left asked query count n told before after no_command no_query is =
    subst (λ (o : Option Command). RanOut o query count told before after) (sym no_command)
    (subst (λ (o : Option Query). RanOut None o count told before after) (sym no_query) (subst (λ (o : Option ℕ). RanOut None None o told before after) (sym is) tt))

pub line_left : (asked : Option Command) (query : Option Query) (count : Option ℕ) (command : Command) (told before after : Option (List ℕ)) (line : List ℕ) (status : ℕ)
    → asked ≡ Some command
    → (status ≡ 1) ⊎ (status ≡ 7)
    → (status ≡ 1 → IfSome told (λ text. IsRefused command text line))
    → (status ≡ 7 → IfSome told (λ text. StopsForNumbers command text))
    → (status ≡ 7 → line ≡ numbers_line)
    → IsBegun line before after
    → RanOut asked query count told before after
line_left asked query count command told before after line status is (inl one) refused numbers says begun =
    ran_out asked query count command told before after is (inr (told_with told (λ text. IsRefused command text line) (λ text. IsLeft command text before after) (λ text r. record { out = line; sayable = is_refusal r; begun = begun }) (refused one)))
line_left asked query count command told before after line status is (inr seven) refused numbers says begun =
    ran_out asked query count command told before after is (inr (told_with told (λ text. StopsForNumbers command text) (λ text. IsLeft command text before after) (λ text s. record { out = line; sayable = stops s (says seven); begun = begun }) (numbers seven)))
