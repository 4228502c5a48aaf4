use Rattle.std.proofs.Common.{◌∙◌, ap, sym}
use Rattle.ste_engine.specs.private.TimedCuts.{cuts_of}
use Rattle.ste_engine.proofs.Merged.{none_before}
use Rattle.ste_engine.proofs.timeline.Timeline.of.Goals as goal

pub returns : goal.returns
returns c = record { starts = c.in_ok-starts.ensures; running = c.new.ensures.items ∙ none_before c.args.timed_cuts.now; cuts = c.new-2.ensures.items ∙ sym (ap cuts_of c.new.ensures.items) }
