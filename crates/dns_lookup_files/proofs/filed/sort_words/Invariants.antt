-- what is sorted so far, and what is left, is all
use Rattle.std.proofs.Common.{◌≡◌, ◌++◌, map, drop}
use Rattle.std.specs.String.{string_bytes}
use Rattle.dns_lookup_files.specs.Files.{files_from, kept_from}
use Rattle.dns_lookup_files.specs.declared.place.Place.TheVariants.{Free}
use Rattle.dns_lookup_files.proofs.filed.sort_words.Given as goal

abbrev pub invariant-loop-word : goal.invariant-loop-word
invariant-loop-word l = record {
  words : map string_bytes l.kept.items ++ kept_from l.place (drop l.word-index l.words) ≡ kept_from Free l.words;
  files : map string_bytes l.files.items ++ files_from l.place (drop l.word-index l.words) ≡ files_from Free l.words;
}
