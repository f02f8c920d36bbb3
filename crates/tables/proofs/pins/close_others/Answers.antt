use Rattle.std.proofs.Common.{◌≡◌, length, arith}
use Rattle.std.proofs.lemmas.List.{set-get_or}
use Rattle.tables.proofs.Pinned.{pinned_more, pinned_own}
use Rattle.tables.proofs.pins.close_others.Goals as goal
use Rattle.tables.proofs.pins.close_others.Goals.{then-c-number, else-c-number}

pub loop-c-preserved : goal.loop-c-preserved
loop-c-preserved g c =
    let before = c.args.row.now in
    elim c.if-c-number.branch [
      | then-c-number w ↦ rw w.row-is (pinned_more c.args.number c.loop-c.c before c.loop-c.row (omega arith) w.if-c-number.true c.loop-c.invariant)
      | else-c-number w ↦ rw (w.row-is, set-get_or) (pinned_own c.args.number c.loop-c.c before c.loop-c.row w.if-c-number.false c.loop-c.invariant)
    ]

pub returns : goal.returns
returns g c = let all : c.loop-c.c ≡ length c.args.row.now = omega arith in rw all at c.loop-c.invariant
