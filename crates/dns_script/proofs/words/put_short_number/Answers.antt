-- So many digits were added, and the octet behind them.
use Rattle.dns_script.proofs.ShortNumbers.{number_stands, one_added, two_added, three_added, four_added, five_added}
use Rattle.dns_script.proofs.words.put_short_number.Goals as goal

pub returns-then-number-lt10 : goal.returns-then-number-lt10
returns-then-number-lt10 c = number_stands _ _ _ _ _ c.put_octets.ensures (one_added c.args.number c.args.behind c.if-number-lt10.true)

pub returns-then-number-lt100 : goal.returns-then-number-lt100
returns-then-number-lt100 c =
    number_stands _ _ _ _ _ c.put_octets-then-number-lt100.ensures (two_added c.args.number c.args.behind c.pair.result c.pair.ensures c.if-number-lt10.false c.if-number-lt100.true)

pub returns-then-number-lt1000 : goal.returns-then-number-lt1000
returns-then-number-lt1000 c =
    number_stands _ _ _ _ _ c.put_octets-then-number-lt1000.ensures (three_added c.args.number c.args.behind c.pair.result c.pair.ensures c.if-number-lt100.false c.if-number-lt1000.true)

pub returns-then-number-lt10000 : goal.returns-then-number-lt10000
returns-then-number-lt10000 c =
    number_stands _ _ _ _ _ c.put_octets-then-number-lt10000.ensures (four_added c.args.number c.args.behind c.pair.result c.pair-2.result c.pair.ensures c.pair-2.ensures c.if-number-lt1000.false c.if-number-lt10000.true)

pub returns : goal.returns
returns c =
    number_stands _ _ _ _ _ c.put_octets-2.ensures (five_added c.args.number c.args.behind c.pair.result c.pair-2.result c.pair.ensures c.pair-2.ensures c.if-number-lt10000.false c.requires.short)
