use Rattle.std.proofs.Common.{subst, ℕ, List, ◌<◌, ◌^◌, slice_index}
use Rattle.client_request.proofs.WordLists.{all_words}
use Rattle.client_request.proofs.words.ListWords.new.Goals as goal

pub returns : goal.returns
returns c = all_words c.args.words (subst (λ (ws : List ℕ). (k : ℕ) → slice_index ws k < 2 ^ 64) c.as_slice.ensures c.words_fit.ensures)
