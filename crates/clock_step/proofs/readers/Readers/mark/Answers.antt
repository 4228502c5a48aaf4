use Rattle.std.proofs.Common.{◌∙◌, ◌-◌, true, length-set, arith, refl}
use Rattle.std.proofs.lemmas.List.{get_or_default}
use Rattle.clock_step.proofs.Chains.{all_met, next_below, none_met, one_met, slot_inside}
use Rattle.clock_step.proofs.readers.Readers.mark.Goals as goal

pub loop-link-init : goal.loop-link-init
loop-link-init c =
    let net = c.args.net.now in
    let heads = c.args.self.now.heads.items in
    let link = c.index-link.result.now in
    record {
      long = refl;
      met = λ is.
          let tall = is.tall in
          none_met net.raw net.settled c.args.self.now is c.args.node.0 c.args.due.now link c.requires.node
          (c.index-link.ensures ∙ get_or_default heads c.args.node.0 link 0 (omega (arith, tall, c.requires.node)));
    }

pub loop-link-preserved : goal.loop-link-preserved
loop-link-preserved c =
    let net = c.args.net.now in
    let readers = c.args.self.now in
    let link = c.loop-link.link in
    let due = c.loop-link.due in
    let place = c.index.result.now in
    let next = c.index-link-in-loop-link.result.now in
    record {
      long = length-set due place true ∙ c.loop-link.invariant.long;
      met = λ is.
          let met = c.loop-link.invariant.met is in
          let inside = slot_inside net.raw net.settled readers is c.args.node.0 c.args.due.now link (link - 1) due c.loop-link-test.true refl met in
          let places = is.places in
          let nexts = is.nexts in
          one_met net.raw net.settled readers is c.args.node.0 c.args.due.now link (link - 1) next place due c.loop-link-test.true refl
          (c.index-link-in-loop-link.ensures ∙ get_or_default readers.nexts.items (link - 1) next 0 (omega (arith, nexts, inside)))
          (c.index.ensures ∙ get_or_default readers.places.items (link - 1) place 0 (omega (arith, places, inside)))
          (c.loop-link.invariant.long ∙ c.requires.due) met;
    }

pub loop-link-smaller : goal.loop-link-smaller
loop-link-smaller c =
    let net = c.args.net.now in
    let readers = c.args.self.now in
    let is = c.requires.readers in
    let link = c.loop-link.link in
    let next = c.index-link-in-loop-link.result.now in
    let met = c.loop-link.invariant.met is in
    let inside = slot_inside net.raw net.settled readers is c.args.node.0 c.args.due.now link (link - 1) c.loop-link.due c.loop-link-test.true refl met in
    let nexts = is.nexts in
    next_below net.raw net.settled readers is c.args.node.0 c.args.due.now link (link - 1) next c.loop-link.due c.loop-link-test.true refl
    (c.index-link-in-loop-link.ensures ∙ get_or_default readers.nexts.items (link - 1) next 0 (omega (arith, nexts, inside))) met

pub returns : goal.returns
returns c =
    let net = c.args.net.now in
    all_met net.raw net.settled c.args.self.now c.requires.readers c.args.node.0 c.args.due.now c.loop-link.link c.loop-link.due (omega (arith, c.loop-link-test.false)) c.loop-link.invariant.long
    (c.loop-link.invariant.met c.requires.readers)
