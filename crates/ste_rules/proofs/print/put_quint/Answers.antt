use Rattle.std.proofs.Common.{◌∙◌, ◌++◌, ap, sym, codes, []}
use Rattle.std.proofs.lemmas.Option.{get_or_from_slice_get}
use Rattle.ste_rules.proofs.Exprs.{four_parts}
use Rattle.ste_rules.proofs.print.put_quint.Goals as goal

pub returns : goal.returns
returns c = four_parts _ _ _ _ _ _ _ _ _ (c.in_ok-put_front.ensures ∙ ap (λ w. c.args.text.now.items ++ ((codes "  " ++ c.args.title.now) ++ (codes " " ++ w))) (c.bytes.ensures ∙ sym (get_or_from_slice_get c.args.names.now.own c.args.quint.now.node.0 c.name.result.now [] c.name.ensures.entry))) c.in_ok-put_exprs.ensures c.in_ok-put_times.ensures c.in_ok-push.ensures.items
