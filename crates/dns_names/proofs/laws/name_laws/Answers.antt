use Rattle.std.proofs.Common.{refl}
use Rattle.dns_names.proofs.NameLaws.{read_is_name, name_is_read, read_legal, read_more, spelled_read}
use Rattle.dns_names.proofs.laws.name_laws.Goals as goal

pub returns : goal.returns
returns c = record { read_is_name = read_is_name; name_is_read = name_is_read; legal = read_legal; stays = read_more; spelled = λ labels front back h. spelled_read labels front back _ refl h }
