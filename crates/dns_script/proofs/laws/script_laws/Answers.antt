use Rattle.dns_script.proofs.OneScript.{script_is_one, script_is_read, script_is_refused_once, script_is_taken}
use Rattle.dns_script.proofs.laws.script_laws.Goals as goal

pub returns : goal.returns
returns c = record {
  script_is_one = script_is_one;
  script_is_taken = script_is_taken;
  script_is_read = script_is_read;
  script_is_refused_once = script_is_refused_once;
}
