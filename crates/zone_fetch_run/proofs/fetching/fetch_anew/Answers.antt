use Rattle.std.proofs.Common.{refl, inl}
use Rattle.zone_transfer.specs.declared.fault.FetchFault.TheVariants.{NoMemory}
use Rattle.zone_fetch_run.specs.Fetching.{is_missed}
use Rattle.zone_fetch_run.proofs.Brought.{whole_anew}
use Rattle.zone_fetch_run.proofs.fetching.fetch_anew.Goals as goal

pub returns-in_default : goal.returns-in_default
returns-in_default g c = is_missed NoMemory (inl refl) refl

pub returns : goal.returns
returns g c = whole_anew _ _ _ _ _ c.in-Ok.apex _ _ _ c.empty.ensures c.in-Ok.ensures c.fetch_whole.ensures
