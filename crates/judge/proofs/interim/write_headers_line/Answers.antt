use Rattle.judge.proofs.Pieces.{read_back}
use Rattle.judge.proofs.interim.write_headers_line.Goals as goal

pub returns-clause-decimals : goal.returns-clause-decimals
returns-clause-decimals c = read_back
