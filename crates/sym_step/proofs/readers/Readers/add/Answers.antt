use Rattle.std.proofs.Common.{◌≡◌, ◌+◌, ◌∙◌, ap, arith, length, refl}
use Rattle.std.proofs.lemmas.List.{get_or_default}
use Rattle.std.specs.Vec.{with_item}
use Rattle.sym_step.specs.declared.readers.Readers.{Readers}
use Rattle.sym_step.specs.private.Readers.{head_of}
use Rattle.sym_step.proofs.Chains.{with_slot}
use Rattle.sym_step.proofs.Reading.{added_one, here_one}
use Rattle.sym_step.proofs.readers.Readers.add.Goals as goal

pub returns-clause-added : goal.returns-clause-added
returns-clause-added c =
    let old : Readers = c.args.self.now in
    let id = c.args.id in
    let is : c.in-Ok.link ≡ length old.slots.items + 1 = let e = c.in-Ok.ensures.1 in omega (arith, e, c.len.ensures, old.slots.ok.0) in
    let next : c.index-next.result.now ≡ head_of old id = c.index-next.ensures ∙ get_or_default old.heads.items id c.index-next.result.now 0 c.requires in
    let slots : c.push.new.self.items ≡ with_slot old.slots.items (head_of old id) c.args.number = c.in_ok-push.ensures.items ∙ ap (λ n. with_slot old.slots.items n c.args.number) next in
    added_one old _ id c.args.number c.in-Ok.link c.requires is slots refl

pub returns-clause-here : goal.returns-clause-here
returns-clause-here c =
    let old : Readers = c.args.self.now in
    let id = c.args.id in
    let is : c.in-Ok.link ≡ length old.slots.items + 1 = let e = c.in-Ok.ensures.1 in omega (arith, e, c.len.ensures, old.slots.ok.0) in
    let next : c.index-next.result.now ≡ head_of old id = c.index-next.ensures ∙ get_or_default old.heads.items id c.index-next.result.now 0 c.requires in
    let slots : c.push.new.self.items ≡ with_slot old.slots.items (head_of old id) c.args.number = c.in_ok-push.ensures.items ∙ ap (λ n. with_slot old.slots.items n c.args.number) next in
    here_one old (record { heads = with_item old.heads id c.in-Ok.link; slots = c.push.new.self }) id c.args.number c.in-Ok.link c.requires is slots refl
