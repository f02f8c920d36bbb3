use Rattle.std.proofs.Common.{is_ok, ap, ◌∙◌, sym, rules}
use Rattle.job.specs.Content.{laid}
use Rattle.job.proofs.Taken.{answered_ok, stands_more, stands_still}
use Rattle.job.proofs.reader.Reader.pin_number.Goals as goal

pub invariant_of-self : goal.invariant_of-self
invariant_of-self c =
    let s = c.args.self.now in
    let refuses = ap is_ok (sym c.pin.ensures.answer) ∙ answered_ok c.pin.result ∙ sym c.map_err.ensures.variant ∙ ap is_ok c.in_err-map_err.was in
    record {
      sized = s.sized;
      pin_room = s.pin_room;
      trace_room = s.trace_room;
      log_room = s.log_room;
      stands = stands_still s.job.size c.args.event c.args.n s.job.pins.items s.pinned c.pin.new.self s.sized s.stands c.pin.ensures.after refuses;
    }

pub invariant_of-self-3 : goal.invariant_of-self-3
invariant_of-self-3 c =
    let s = c.args.self.now in
    record {
      sized = s.sized;
      pin_room = search rules;
      trace_room = search rules;
      log_room = search rules;
      stands = stands_more s.job.size c.args.event c.args.n s.job.pins.items s.pinned c.pin.new.self s.sized s.stands c.pin.ensures.after ∙ ap (laid s.job.size) (sym c.push.ensures.items);
    }
