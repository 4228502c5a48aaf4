use Rattle.std.specs.Prelude.{vec_len}
use Rattle.std.proofs.Common.{rules, ◌≡◌, List, [], ◌∷◌, ◌++◌, length, sym, ◌∙◌, ap, subst}
use Rattle.std.specs.Prelude.{All}
use Rattle.dual_rail.specs.declared.rails.Rails.{Rails}
use Rattle.gate_sets.specs.declared.gate_memo.Entry.{Entry}
use Rattle.gate_sets.specs.declared.gate_memo.GateMemo.{GateMemo}
use Rattle.gate_sets.specs.private.TruthTables.{IsEntry}
use Rattle.gate_sets.proofs.Entries.{entries_and_one}
use Rattle.gate_sets.proofs.gate_memo.GateMemo.put.Goals.{then-slot-len, else-slot-len}
use Rattle.gate_sets.proofs.gate_memo.GateMemo.put.Goals as goal

pub returns : goal.returns
returns c = λ s met refs set.
    let xs : List Rails = c.args.self.now.operands.items in
    let ys : List Rails = c.args.operands.now in
    let es : List Entry = c.args.self.now.entries.items in
    let e : Entry = record { tables = c.args.tables; begin = c.len-begin.result; rails = c.args.rails } in
    let count : vec_len c.args.self.now.operands ≡ length xs = search rules in
    let entries : c.if-slot-len.self.entries.items ≡ es = elim c.if-slot-len.branch as (λ _. c.if-slot-len.self.entries.items ≡ es) [
      | then-slot-len w ↦ ap (λ (m : GateMemo). m.entries.items) w.self-is
      | else-slot-len w ↦ ap (λ (m : GateMemo). m.entries.items) w.self-is
    ] in
    let operands : c.if-slot-len.self.operands.items ≡ xs ++ ys = elim c.if-slot-len.branch as (λ _. c.if-slot-len.self.operands.items ≡ xs ++ ys) [
      | then-slot-len w ↦ ap (λ (m : GateMemo). m.operands.items) w.self-is ∙ c.in_ok-extend_from_slice.ensures.items
      | else-slot-len w ↦ ap (λ (m : GateMemo). m.operands.items) w.self-is ∙ c.in_ok-extend_from_slice.ensures.items
    ] in
    let pushed : c.push.new.self.items ≡ es ++ e ∷ [] = c.in_ok-push.ensures.items ∙ ap (λ (rest : List Entry). rest ++ e ∷ []) entries in
    subst (All (IsEntry s (length ys) c.if-slot-len.self.operands.items)) (sym pushed)
    (subst (λ (rs : List Rails). All (IsEntry s (length ys) rs) (es ++ e ∷ [])) (sym operands)
    (entries_and_one s xs ys es e (c.len-begin.ensures ∙ count) met refs set))
