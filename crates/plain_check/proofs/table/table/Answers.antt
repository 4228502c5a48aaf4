use Rattle.std.proofs.Common.{◌≡◌, ◌∙◌, ◌+◌, List, [], ◌∷◌, ◌++◌, length, arith, sym, ap, subst, length-append}
use Rattle.std.proofs.lemmas.List.{length-map}
use Rattle.std.proofs.lemmas.List.Elements.{All-push}
use Rattle.net_core.specs.declared.bit_set.BitSet.{BitSet}
use Rattle.net_core.specs.declared.raw.Latch.{Latch}
use Rattle.net_core.specs.Possible.{ArePossible}
use Rattle.std.specs.Prelude.{All}
use Rattle.ste_model.specs.Asked.{asked_at}
use Rattle.net_core.specs.Sets.{next_sets}
use Rattle.ste_model.specs.Table.{IsPossible, latch_sets}
use Rattle.plain_check.specs.private.Outcome.{table_of}
use Rattle.plain_check.specs.private.Sets.{set_at}
use Rattle.plain_check.proofs.Tabled.{more_rows, held_next}
use Rattle.plain_check.proofs.table.table.Goals as goal

pub loop-t-preserved : goal.loop-t-preserved
loop-t-preserved c =
    let net = c.args.net.now.raw in
    let task = c.args.task.now in
    let row = c.in_ok-row.row in
    let rows = c.loop-t.rows.items in
    let t = c.loop-t.t in
    let pushed : c.push.new.self.items ≡ rows ++ row ∷ [] = c.in_ok-push.ensures.items in
    let next : c.in_ok-held-2.held.items ≡ next_sets net (set_at row) = c.in_ok-held-2.ensures ∙ ap (λ (r : List BitSet). next_sets net (set_at r)) c.as_slice.ensures in
    let here : ArePossible net c.loop-t.held.items (asked_at task c.args.bits.now t) (set_at row) =
    subst (λ (held : List BitSet). ArePossible net held (asked_at task c.args.bits.now t) (set_at row)) c.deref.ensures.value
    c.in_ok-row.ensures.possible in
    record {
      long = ap length pushed ∙ (let more = length-append rows (row ∷ []) in omega (arith, more, c.loop-t.invariant.long));
      wide = subst (All (λ (r : List BitSet). length r ≡ net.nets)) (sym pushed) (All-push (λ (r : List BitSet). length r ≡ net.nets) rows row c.loop-t.invariant.wide c.in_ok-row.ensures.long);
      count = ap length next ∙ length-map net.latches (λ (latch : Latch). set_at row latch.input.0);
      held = next ∙ held_next net task.reset rows row t c.loop-t.invariant.long ∙ ap (λ (r : List (List BitSet)). latch_sets net task.reset (table_of r) (t + 1)) (sym pushed);
      possible = subst (λ (r : List (List BitSet)). IsPossible net task.reset (asked_at task c.args.bits.now) (t + 1) (table_of r)) (sym pushed)
          (more_rows net task.reset (asked_at task c.args.bits.now) rows c.loop-t.held.items row t c.loop-t.invariant.long c.loop-t.invariant.held c.loop-t.invariant.possible here);
    }
