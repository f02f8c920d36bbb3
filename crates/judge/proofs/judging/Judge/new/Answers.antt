use Rattle.judge.proofs.Theory.{theory}
use Rattle.judge.proofs.judging.Judge.new.Goals as goal

pub returns-in_err-grades-clause-theory : goal.returns-in_err-grades-clause-theory
returns-in_err-grades-clause-theory g c = theory _

pub returns-clause-theory : goal.returns-clause-theory
returns-clause-theory g c = theory _
