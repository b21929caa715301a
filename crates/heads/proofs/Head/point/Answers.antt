use Rattle.std.proofs.Common.{rules}
use Rattle.heads.proofs.Tests.{read_test}
use Rattle.heads.proofs.Head.point.Goals as goal

pub returns : goal.returns
returns c = search (rules, read_test c.args.self.now c.args.letter)
