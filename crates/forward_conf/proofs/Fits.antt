-- An answer is kept for ten weeks at most, whatever the options say.
use Rattle.std.proofs.Common.{◌<◌, ◌≤◌, ◌≡◌, ℕ, arith, lit≤}
use Rattle.std.specs.Cmp.{ranks}
use Rattle.std.specs.Ordering.{MatchOrdering, nat_cmp}
use Rattle.std.specs.declared.cmp.Ordering.{Ordering}
use Rattle.std.specs.declared.cmp.Ordering.TheVariants.{Less, Equal, Greater}
use Rattle.client_request.specs.Limits.{at_most, greater_by, lesser_by}
use Rattle.client_settings.specs.Settings.{seconds}
use Rattle.forward_conf.specs.Settings.{cache_of}
use Rattle.forward_words.specs.declared.options.Options.{Options}

most_fits : (r : Ordering) (v g : ℕ) → MatchOrdering r (v < g) (v ≡ g) (g < v) → lesser_by r v g ≤ g
most_fits Less v g h = omega arith
most_fits Equal v g h = omega arith
most_fits Greater v g h = omega arith

least_fits : (r : Ordering) (v l g : ℕ) → v ≤ g → l ≤ g → greater_by r v l ≤ g
least_fits Less v l g fits least = least
least_fits Equal v l g fits least = fits
least_fits Greater v l g fits least = fits

pub validity_fits : (o : Options) → (cache_of o).max_validity ≤ seconds 6048000
validity_fits o =
    let most = seconds 6048000 in
    let cut = at_most nat_cmp most (seconds o.max_ttl) in
    least_fits (nat_cmp cut (seconds 60)) cut (seconds 60) most (most_fits (nat_cmp (seconds o.max_ttl) most) (seconds o.max_ttl) most (ranks (seconds o.max_ttl) most)) (lit≤ tt)
