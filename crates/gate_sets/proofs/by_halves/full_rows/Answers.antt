use Rattle.std.specs.Prelude.{vec_len}
use Rattle.std.proofs.Common.{rules, ◌≡◌, ◌<◌, ◌+◌, ◌∷◌, ◌++◌, ℕ, List, length, drop, get_or, sym, ◌∙◌, ap, subst, arith, Vec, Global}
use Rattle.std.proofs.lemmas.List.{drop_all, drop_more}
use Rattle.net_core.specs.declared.cover.Lit.{Lit}
use Rattle.gate_sets.specs.declared.piece.Piece.{Piece}
use Rattle.gate_sets.specs.declared.piece.Piece.TheVariants.{Put, Close}
use Rattle.gate_sets.proofs.Stacked.{all_gathered, close_gathered, put_gathered, AreGathered}
use Rattle.gate_sets.proofs.by_halves.full_rows.Goals.{in-Put+else-eq+in_ok-push-in-Put, in-Close+else-len-width+in_ok-extend_from_slice-in-Close}
use Rattle.gate_sets.proofs.by_halves.full_rows.Goals as goal

-- the pieces that are left, with the first of them named
next_is : (pieces : List Piece) (k : ℕ) (d piece : Piece) → k < length pieces → get_or pieces k d ≡ piece → drop k pieces ≡ piece ∷ drop (k + 1) pieces
next_is pieces k d piece lt is = drop_more pieces k d lt ∙ ap (λ x. x ∷ drop (k + 1) pieces) is

pub loop-piece-preserved : goal.loop-piece-preserved
loop-piece-preserved c =
    let pieces : List Piece = c.pieces-piece-items.result.now in
    let k = c.loop-piece.piece-index in
    let width = c.args.width in
    let full : List Lit = c.loop-piece.full.items in
    let begun : List Lit = c.loop-piece.begun.items in
    let rest : List Piece = drop (k + 1) pieces in
    let lt : k < length pieces = omega (arith, c.loop-piece-test.true) in
    elim c.match-piece.branch [
      | in-Put+else-eq+in_ok-push-in-Put w ↦
          let lit = w.in-Put.lit in
          subst (λ (lits : List Lit). AreGathered width c.args.rows.now.list lits c.match-piece.begun.items rest) (sym (ap (λ (v : Vec Lit Global). v.items) w.full-is))
          (put_gathered width c.args.rows.now.list full begun c.match-piece.begun.items lit (drop k pieces) rest (next_is pieces k _ (Put lit) lt w.in-Put.is)
          (ap (λ (v : Vec Lit Global). v.items) w.begun-is ∙ w.in_ok-push-in-Put.ensures.items) c.loop-piece.invariant)
      | in-Close+else-len-width+in_ok-extend_from_slice-in-Close w ↦
          let kept = w.in-Close.kept in
          let view : vec_len c.loop-piece.begun ≡ length begun = search rules in
          let added = w.in_ok-extend_from_slice-in-Close.ensures.items in
          close_gathered width c.args.rows.now.list full c.match-piece.full.items begun c.match-piece.begun.items kept (drop k pieces) rest (next_is pieces k _ (Close kept) lt w.in-Close.is)
          (sym view ∙ sym w.len.ensures ∙ w.if-len-width.false)
          (ap (λ (v : Vec Lit Global). v.items) w.full-is ∙ added ∙ ap (λ (ls : List Lit). full ++ ls) w.as_slice.ensures.value)
          (ap (λ (v : Vec Lit Global). v.items) w.begun-is ∙ w.truncate.ensures.items) c.loop-piece.invariant
    ]

-- at the end of the pieces all rows are there
pub returns-clause-literals : goal.returns-clause-literals
returns-clause-literals c =
    let end = c.loop-piece-test.false in
    (all_gathered c.args.width c.args.rows.now.list c.loop-piece.full.items c.loop-piece.begun.items _ (drop_all c.loop-piece.piece-index c.pieces-piece-items.result.now (omega (arith, end))) c.loop-piece.invariant).0

pub returns-clause-wide : goal.returns-clause-wide
returns-clause-wide c =
    let end = c.loop-piece-test.false in
    (all_gathered c.args.width c.args.rows.now.list c.loop-piece.full.items c.loop-piece.begun.items _ (drop_all c.loop-piece.piece-index c.pieces-piece-items.result.now (omega (arith, end))) c.loop-piece.invariant).1
