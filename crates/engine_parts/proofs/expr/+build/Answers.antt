use Rattle.std.proofs.Common.{◌≡◌, ◌∷◌, [], ◌++◌, List, Bool, refl, sym, ◌∙◌, ap, subst, arith, Ok, Err, get_or, false, true}
use Rattle.bool_expr.specs.declared.expr.Expr.{Expr}
use Rattle.ste_base.specs.Functions.{Function}
use Rattle.dd_nodes.specs.Stores.{Store, Means}
use Rattle.net_core.specs.Work.{negation, whole}
use Rattle.ste_model.specs.Expressions.{SymbolicValue, symbolic_step, symbolic_value}
use Rattle.ste_base.specs.declared.id.VarId.{VarId}
use Rattle.bool_expr.specs.declared.expr.Expr.TheVariants.{Var, rolls-Var}
use Rattle.bool_expr.specs.declared.expr.Expr.TheFolds.{fold-roll-Expr}
use Rattle.dual_rail.specs.Rail.{Built, HasFunction}
use Rattle.dual_rail.proofs.Works.{Built-answer, So-start, Built-made}
use Rattle.dd_nodes.proofs.Spending.{one_means, zero_means}
use Rattle.std.proofs.Common.{Box, Vec, Global, map, ℕ, ◌+◌}
use Rattle.std.specs.Prelude.{IsTrue}
use Rattle.std.specs.List.{list_all}
use Rattle.std.proofs.lemmas.List.{take_all}
use Rattle.std.proofs.lemmas.List.Elements.{Contains-append_left, Contains-append_right}
use Rattle.bool_expr.specs.declared.expr.Expr.TheVariants as tree
use Rattle.dd_nodes.proofs.Walks.{IsFrom-grows}
use Rattle.net_core.specs.Work.{always, never, conjunction, disjunction}
use Rattle.ste_model.specs.Expressions.{reads, reads_step, joined_parts, exclusive_disjunction}
use Rattle.dual_rail.proofs.Works.{first, last, pass, Built-wider, and_built, or_built, not_built}
use Rattle.engine_parts.proofs.Exprs.{work_of, so_far, part_built, part_turn, part_reads, xor_built, values_long}
use Rattle.ste_model.proofs.Values.{values_of}
use Rattle.engine_parts.proofs.expr.+build.Goals as goal

built_var : (v : VarId) → symbolic_value (Var v) ≡ record { value = λ bits. get_or bits v.0 false; work = (λ bits. get_or bits v.0 false) ∷ [] }
built_var v = ap symbolic_value (sym (rolls-Var v)) ∙ fold-roll-Expr SymbolicValue symbolic_step _

pub returns-in-Var : goal.returns-in-Var
returns-in-Var g m c =
    let s : Store = g.N.Nodes.store c.args.nodes.now in
    let t : Store = g.N.Nodes.store c.var.new.nodes in
    let f : Function = λ bits. get_or bits c.in-Var.variable.0 false in
    subst (λ (e : Expr). Built (symbolic_value e).work (HasFunction (symbolic_value e).value) s t c.var.result) (sym c.in-Var.is)
    (subst (λ (b : SymbolicValue). Built b.work (HasFunction b.value) s t c.var.result) (sym (built_var c.in-Var.variable))
    (Built-answer (f ∷ []) f f s t c.var.result (0, omega arith, refl) (λ bits l. refl) c.var.ensures))

-- ---- All
built_all : (v : Vec Expr Global) → symbolic_value (tree.All v) ≡ joined_parts conjunction always (map symbolic_value v.items)
built_all v = ap symbolic_value (sym (tree.rolls-All v)) ∙ fold-roll-Expr SymbolicValue symbolic_step _

reads_all : (vars : ℕ) (v : Vec Expr Global) → reads vars (tree.All v) ≡ list_all (λ b. b) (map (reads vars) v.items)
reads_all vars v = ap (reads vars) (sym (tree.rolls-All v)) ∙ fold-roll-Expr Bool (reads_step vars) _

pub loop-part-init : goal.loop-part-init
loop-part-init g t c =
    let s : Store = g.N.Nodes.store c.args.nodes.now in
    let es : List Expr = c.deref-part-items.result.now in
    let same : es ≡ c.in-All.parts.items = c.deref-part-items.ensures.value in
    record {
      is = ap symbolic_value c.in-All.is ∙ built_all c.in-All.parts ∙ ap (λ (xs : List Expr). joined_parts conjunction always (map symbolic_value xs)) (sym same);
      reads = λ k d lt. part_reads s.vars es k d lt (subst (λ (xs : List Expr). IsTrue (list_all (λ b. b) (map (reads s.vars) xs))) (sym same) (sym (reads_all s.vars c.in-All.parts) ∙ ap (reads s.vars) (sym c.in-All.is) ∙ c.requires));
      so = record { so = So-start (work_of conjunction always es) s; means = one_means s (g.met.N.Nodes.diagram c.args.nodes.now) };
    }

pub returns-in_err-r-in-All : goal.returns-in_err-r-in-All
returns-in_err-r-in-All g m c =
    let s : Store = g.N.Nodes.store c.args.nodes.now in
    let t : Store = g.N.Nodes.store c.loop-part.nodes in
    let u : Store = g.N.Nodes.store c.build-in-loop-part.new.nodes in
    let gt = g.met.N.Nodes.diagram c.loop-part.nodes in
    let gu = g.met.N.Nodes.diagram c.build-in-loop-part.new.nodes in
    let es : List Expr = c.deref-part-items.result.now in
    let fault = c.in_err-r-in-All.field-0.0 in
    let work : List Function = work_of conjunction always es in
    let gs = g.met.N.Nodes.diagram c.args.nodes.now in
    let b = part_built conjunction always es s t u c.loop-part.part-index c.part-item.result c.loop-part.all (Err fault) gt gu c.loop-part-test.true c.part-item.is c.loop-part.invariant.so c.in_err-r-in-All.ensures in
    subst (λ (b : SymbolicValue). Built b.work (HasFunction b.value) s u c.from_residual-in_err-r-in-All.result) (sym c.loop-part.invariant.is)
    (pass work (HasFunction (symbolic_value c.part-item.result).value) (HasFunction (joined_parts conjunction always (map symbolic_value es)).value) s s u fault c.from_residual-in_err-r-in-All.result gs gu (So-start work s) b c.from_residual-in_err-r-in-All.ensures.1)

pub loop-part-preserved : goal.loop-part-preserved
loop-part-preserved g m c =
    let s : Store = g.N.Nodes.store c.args.nodes.now in
    let t : Store = g.N.Nodes.store c.loop-part.nodes in
    let u : Store = g.N.Nodes.store c.build-in-loop-part.new.nodes in
    let v : Store = g.N.Nodes.store c.both.new.nodes in
    let gs = g.met.N.Nodes.diagram c.args.nodes.now in
    let gt = g.met.N.Nodes.diagram c.loop-part.nodes in
    let gu = g.met.N.Nodes.diagram c.build-in-loop-part.new.nodes in
    let gv = g.met.N.Nodes.diagram c.both.new.nodes in
    let es : List Expr = c.deref-part-items.result.now in
    let k = c.loop-part.part-index in
    let work : List Function = work_of conjunction always es in
    let b = part_turn conjunction always es s t u v k c.part-item.result c.loop-part.all c.in_ok-r-in-All.r (Ok c.in_ok-all-in-All.all) gt gu gv c.loop-part-test.true c.part-item.is c.loop-part.invariant.so c.in_ok-r-in-All.ensures
    (λ part f h has mf mh. and_built part f h u v c.loop-part.all c.in_ok-r-in-All.r (Ok c.in_ok-all-in-All.all) has mf mh c.in_ok-all-in-All.ensures) in
    let same : v.vars ≡ t.vars = b.spends.keeps.vars ∙ sym c.loop-part.invariant.so.so.keeps.vars in
    record {
      is = c.loop-part.invariant.is;
      reads = λ i d lt. subst (λ vars. IsTrue (reads vars (get_or es i d))) (sym same) (c.loop-part.invariant.reads i d lt);
      so = record { so = first work (HasFunction (so_far conjunction always es (k + 1))) s v (Ok c.in_ok-all-in-All.all) b; means = b.ok };
    }

pub returns-in_err-all-in-All : goal.returns-in_err-all-in-All
returns-in_err-all-in-All g m c =
    let s : Store = g.N.Nodes.store c.args.nodes.now in
    let t : Store = g.N.Nodes.store c.loop-part.nodes in
    let u : Store = g.N.Nodes.store c.build-in-loop-part.new.nodes in
    let v : Store = g.N.Nodes.store c.both.new.nodes in
    let gs = g.met.N.Nodes.diagram c.args.nodes.now in
    let gt = g.met.N.Nodes.diagram c.loop-part.nodes in
    let gu = g.met.N.Nodes.diagram c.build-in-loop-part.new.nodes in
    let gv = g.met.N.Nodes.diagram c.both.new.nodes in
    let es : List Expr = c.deref-part-items.result.now in
    let k = c.loop-part.part-index in
    let work : List Function = work_of conjunction always es in
    let fault = c.in_err-all-in-All.field-0.0 in
    let b = part_turn conjunction always es s t u v k c.part-item.result c.loop-part.all c.in_ok-r-in-All.r (Err fault) gt gu gv c.loop-part-test.true c.part-item.is c.loop-part.invariant.so c.in_ok-r-in-All.ensures
    (λ part f h has mf mh. and_built part f h u v c.loop-part.all c.in_ok-r-in-All.r (Err fault) has mf mh c.in_err-all-in-All.ensures) in
    subst (λ (b : SymbolicValue). Built b.work (HasFunction b.value) s v c.from_residual-in_err-all-in-All.result) (sym c.loop-part.invariant.is)
    (pass work (HasFunction (so_far conjunction always es (k + 1))) (HasFunction (joined_parts conjunction always (map symbolic_value es)).value) s s v fault c.from_residual-in_err-all-in-All.result gs gv (So-start work s) b c.from_residual-in_err-all-in-All.ensures.1)

pub both-requires-clause-left : goal.both-requires-clause-left
both-requires-clause-left g m c =
    IsFrom-grows _ _ 0 _ c.in_ok-r-in-All.ensures.spends.keeps.grows c.loop-part.invariant.so.means.ref

pub returns-after-loop-part : goal.returns-after-loop-part
returns-after-loop-part g m c =
    let s : Store = g.N.Nodes.store c.args.nodes.now in
    let t : Store = g.N.Nodes.store c.loop-part.nodes in
    let es : List Expr = c.deref-part-items.result.now in
    let k = c.loop-part.part-index in
    let p = c.loop-part.invariant.so in
    let n = values_long es in
    let end : so_far conjunction always es k ≡ (joined_parts conjunction always (map symbolic_value es)).value = ap (whole conjunction always) (take_all k (values_of es) (omega (arith, n, c.loop-part-test.false))) in
    subst (λ (b : SymbolicValue). Built b.work (HasFunction b.value) s t (Ok c.loop-part.all)) (sym c.loop-part.invariant.is)
    (Built-made (work_of conjunction always es) (HasFunction (joined_parts conjunction always (map symbolic_value es)).value) s t c.loop-part.all p.so (subst (λ (f : Function). Means t f c.loop-part.all) end p.means))

-- ---- Odd
built_odd : (v : Vec Expr Global) → symbolic_value (tree.Odd v) ≡ joined_parts exclusive_disjunction never (map symbolic_value v.items)
built_odd v = ap symbolic_value (sym (tree.rolls-Odd v)) ∙ fold-roll-Expr SymbolicValue symbolic_step _

reads_odd : (vars : ℕ) (v : Vec Expr Global) → reads vars (tree.Odd v) ≡ list_all (λ b. b) (map (reads vars) v.items)
reads_odd vars v = ap (reads vars) (sym (tree.rolls-Odd v)) ∙ fold-roll-Expr Bool (reads_step vars) _

pub loop-part-2-init : goal.loop-part-2-init
loop-part-2-init g t c =
    let s : Store = g.N.Nodes.store c.args.nodes.now in
    let es : List Expr = c.deref-part-items-in-Odd.result.now in
    let same : es ≡ c.in-Odd.parts.items = c.deref-part-items-in-Odd.ensures.value in
    record {
      is = ap symbolic_value c.in-Odd.is ∙ built_odd c.in-Odd.parts ∙ ap (λ (xs : List Expr). joined_parts exclusive_disjunction never (map symbolic_value xs)) (sym same);
      reads = λ k d lt. part_reads s.vars es k d lt (subst (λ (xs : List Expr). IsTrue (list_all (λ b. b) (map (reads s.vars) xs))) (sym same) (sym (reads_odd s.vars c.in-Odd.parts) ∙ ap (reads s.vars) (sym c.in-Odd.is) ∙ c.requires));
      so = record { so = So-start (work_of exclusive_disjunction never es) s; means = zero_means s (g.met.N.Nodes.diagram c.args.nodes.now) };
    }

pub returns-in_err-r-in-Odd : goal.returns-in_err-r-in-Odd
returns-in_err-r-in-Odd g m c =
    let s : Store = g.N.Nodes.store c.args.nodes.now in
    let t : Store = g.N.Nodes.store c.loop-part-2.nodes in
    let u : Store = g.N.Nodes.store c.build-in-loop-part-2.new.nodes in
    let gt = g.met.N.Nodes.diagram c.loop-part-2.nodes in
    let gu = g.met.N.Nodes.diagram c.build-in-loop-part-2.new.nodes in
    let es : List Expr = c.deref-part-items-in-Odd.result.now in
    let fault = c.in_err-r-in-Odd.field-0.0 in
    let work : List Function = work_of exclusive_disjunction never es in
    let gs = g.met.N.Nodes.diagram c.args.nodes.now in
    let b = part_built exclusive_disjunction never es s t u c.loop-part-2.part-index c.part-item-in-loop-part-2.result c.loop-part-2.odd (Err fault) gt gu c.loop-part-2-test.true c.part-item-in-loop-part-2.is c.loop-part-2.invariant.so c.in_err-r-in-Odd.ensures in
    subst (λ (b : SymbolicValue). Built b.work (HasFunction b.value) s u c.from_residual-in_err-r-in-Odd.result) (sym c.loop-part-2.invariant.is)
    (pass work (HasFunction (symbolic_value c.part-item-in-loop-part-2.result).value) (HasFunction (joined_parts exclusive_disjunction never (map symbolic_value es)).value) s s u fault c.from_residual-in_err-r-in-Odd.result gs gu (So-start work s) b c.from_residual-in_err-r-in-Odd.ensures.1)

pub loop-part-2-preserved : goal.loop-part-2-preserved
loop-part-2-preserved g m c =
    let s : Store = g.N.Nodes.store c.args.nodes.now in
    let t : Store = g.N.Nodes.store c.loop-part-2.nodes in
    let u : Store = g.N.Nodes.store c.build-in-loop-part-2.new.nodes in
    let v : Store = g.N.Nodes.store c.xor.new.nodes in
    let gs = g.met.N.Nodes.diagram c.args.nodes.now in
    let gt = g.met.N.Nodes.diagram c.loop-part-2.nodes in
    let gu = g.met.N.Nodes.diagram c.build-in-loop-part-2.new.nodes in
    let gv = g.met.N.Nodes.diagram c.xor.new.nodes in
    let es : List Expr = c.deref-part-items-in-Odd.result.now in
    let k = c.loop-part-2.part-index in
    let work : List Function = work_of exclusive_disjunction never es in
    let b = part_turn exclusive_disjunction never es s t u v k c.part-item-in-loop-part-2.result c.loop-part-2.odd c.in_ok-r-in-Odd.r (Ok c.in_ok-odd-in-Odd.odd) gt gu gv c.loop-part-2-test.true c.part-item-in-loop-part-2.is c.loop-part-2.invariant.so c.in_ok-r-in-Odd.ensures
    (λ part f h has mf mh. xor_built part f h u v c.loop-part-2.odd c.in_ok-r-in-Odd.r (Ok c.in_ok-odd-in-Odd.odd) has mf mh c.in_ok-odd-in-Odd.ensures) in
    let same : v.vars ≡ t.vars = b.spends.keeps.vars ∙ sym c.loop-part-2.invariant.so.so.keeps.vars in
    record {
      is = c.loop-part-2.invariant.is;
      reads = λ i d lt. subst (λ vars. IsTrue (reads vars (get_or es i d))) (sym same) (c.loop-part-2.invariant.reads i d lt);
      so = record { so = first work (HasFunction (so_far exclusive_disjunction never es (k + 1))) s v (Ok c.in_ok-odd-in-Odd.odd) b; means = b.ok };
    }

pub returns-in_err-odd-in-Odd : goal.returns-in_err-odd-in-Odd
returns-in_err-odd-in-Odd g m c =
    let s : Store = g.N.Nodes.store c.args.nodes.now in
    let t : Store = g.N.Nodes.store c.loop-part-2.nodes in
    let u : Store = g.N.Nodes.store c.build-in-loop-part-2.new.nodes in
    let v : Store = g.N.Nodes.store c.xor.new.nodes in
    let gs = g.met.N.Nodes.diagram c.args.nodes.now in
    let gt = g.met.N.Nodes.diagram c.loop-part-2.nodes in
    let gu = g.met.N.Nodes.diagram c.build-in-loop-part-2.new.nodes in
    let gv = g.met.N.Nodes.diagram c.xor.new.nodes in
    let es : List Expr = c.deref-part-items-in-Odd.result.now in
    let k = c.loop-part-2.part-index in
    let work : List Function = work_of exclusive_disjunction never es in
    let fault = c.in_err-odd-in-Odd.field-0.0 in
    let b = part_turn exclusive_disjunction never es s t u v k c.part-item-in-loop-part-2.result c.loop-part-2.odd c.in_ok-r-in-Odd.r (Err fault) gt gu gv c.loop-part-2-test.true c.part-item-in-loop-part-2.is c.loop-part-2.invariant.so c.in_ok-r-in-Odd.ensures
    (λ part f h has mf mh. xor_built part f h u v c.loop-part-2.odd c.in_ok-r-in-Odd.r (Err fault) has mf mh c.in_err-odd-in-Odd.ensures) in
    subst (λ (b : SymbolicValue). Built b.work (HasFunction b.value) s v c.from_residual-in_err-odd-in-Odd.result) (sym c.loop-part-2.invariant.is)
    (pass work (HasFunction (so_far exclusive_disjunction never es (k + 1))) (HasFunction (joined_parts exclusive_disjunction never (map symbolic_value es)).value) s s v fault c.from_residual-in_err-odd-in-Odd.result gs gv (So-start work s) b c.from_residual-in_err-odd-in-Odd.ensures.1)

pub xor-requires-clause-left : goal.xor-requires-clause-left
xor-requires-clause-left g m c =
    IsFrom-grows _ _ 0 _ c.in_ok-r-in-Odd.ensures.spends.keeps.grows c.loop-part-2.invariant.so.means.ref

pub returns-after-loop-part-2 : goal.returns-after-loop-part-2
returns-after-loop-part-2 g m c =
    let s : Store = g.N.Nodes.store c.args.nodes.now in
    let t : Store = g.N.Nodes.store c.loop-part-2.nodes in
    let es : List Expr = c.deref-part-items-in-Odd.result.now in
    let k = c.loop-part-2.part-index in
    let p = c.loop-part-2.invariant.so in
    let n = values_long es in
    let end : so_far exclusive_disjunction never es k ≡ (joined_parts exclusive_disjunction never (map symbolic_value es)).value = ap (whole exclusive_disjunction never) (take_all k (values_of es) (omega (arith, n, c.loop-part-2-test.false))) in
    subst (λ (b : SymbolicValue). Built b.work (HasFunction b.value) s t (Ok c.loop-part-2.odd)) (sym c.loop-part-2.invariant.is)
    (Built-made (work_of exclusive_disjunction never es) (HasFunction (joined_parts exclusive_disjunction never (map symbolic_value es)).value) s t c.loop-part-2.odd p.so (subst (λ (f : Function). Means t f c.loop-part-2.odd) end p.means))

-- ---- Any
built_any : (v : Vec Expr Global) → symbolic_value (tree.Any v) ≡ joined_parts disjunction never (map symbolic_value v.items)
built_any v = ap symbolic_value (sym (tree.rolls-Any v)) ∙ fold-roll-Expr SymbolicValue symbolic_step _

reads_any : (vars : ℕ) (v : Vec Expr Global) → reads vars (tree.Any v) ≡ list_all (λ b. b) (map (reads vars) v.items)
reads_any vars v = ap (reads vars) (sym (tree.rolls-Any v)) ∙ fold-roll-Expr Bool (reads_step vars) _

pub loop-part-3-init : goal.loop-part-3-init
loop-part-3-init g t c =
    let s : Store = g.N.Nodes.store c.args.nodes.now in
    let es : List Expr = c.deref-part-items-in-Any.result.now in
    let same : es ≡ c.in-Any.parts.items = c.deref-part-items-in-Any.ensures.value in
    record {
      is = ap symbolic_value c.in-Any.is ∙ built_any c.in-Any.parts ∙ ap (λ (xs : List Expr). joined_parts disjunction never (map symbolic_value xs)) (sym same);
      reads = λ k d lt. part_reads s.vars es k d lt (subst (λ (xs : List Expr). IsTrue (list_all (λ b. b) (map (reads s.vars) xs))) (sym same) (sym (reads_any s.vars c.in-Any.parts) ∙ ap (reads s.vars) (sym c.in-Any.is) ∙ c.requires));
      so = record { so = So-start (work_of disjunction never es) s; means = zero_means s (g.met.N.Nodes.diagram c.args.nodes.now) };
    }

pub returns-in_err-r-in-Any : goal.returns-in_err-r-in-Any
returns-in_err-r-in-Any g m c =
    let s : Store = g.N.Nodes.store c.args.nodes.now in
    let t : Store = g.N.Nodes.store c.loop-part-3.nodes in
    let u : Store = g.N.Nodes.store c.build-in-loop-part-3.new.nodes in
    let gt = g.met.N.Nodes.diagram c.loop-part-3.nodes in
    let gu = g.met.N.Nodes.diagram c.build-in-loop-part-3.new.nodes in
    let es : List Expr = c.deref-part-items-in-Any.result.now in
    let fault = c.in_err-r-in-Any.field-0.0 in
    let work : List Function = work_of disjunction never es in
    let gs = g.met.N.Nodes.diagram c.args.nodes.now in
    let b = part_built disjunction never es s t u c.loop-part-3.part-index c.part-item-in-loop-part-3.result c.loop-part-3.any (Err fault) gt gu c.loop-part-3-test.true c.part-item-in-loop-part-3.is c.loop-part-3.invariant.so c.in_err-r-in-Any.ensures in
    subst (λ (b : SymbolicValue). Built b.work (HasFunction b.value) s u c.from_residual-in_err-r-in-Any.result) (sym c.loop-part-3.invariant.is)
    (pass work (HasFunction (symbolic_value c.part-item-in-loop-part-3.result).value) (HasFunction (joined_parts disjunction never (map symbolic_value es)).value) s s u fault c.from_residual-in_err-r-in-Any.result gs gu (So-start work s) b c.from_residual-in_err-r-in-Any.ensures.1)

pub loop-part-3-preserved : goal.loop-part-3-preserved
loop-part-3-preserved g m c =
    let s : Store = g.N.Nodes.store c.args.nodes.now in
    let t : Store = g.N.Nodes.store c.loop-part-3.nodes in
    let u : Store = g.N.Nodes.store c.build-in-loop-part-3.new.nodes in
    let v : Store = g.N.Nodes.store c.either.new.nodes in
    let gs = g.met.N.Nodes.diagram c.args.nodes.now in
    let gt = g.met.N.Nodes.diagram c.loop-part-3.nodes in
    let gu = g.met.N.Nodes.diagram c.build-in-loop-part-3.new.nodes in
    let gv = g.met.N.Nodes.diagram c.either.new.nodes in
    let es : List Expr = c.deref-part-items-in-Any.result.now in
    let k = c.loop-part-3.part-index in
    let work : List Function = work_of disjunction never es in
    let b = part_turn disjunction never es s t u v k c.part-item-in-loop-part-3.result c.loop-part-3.any c.in_ok-r-in-Any.r (Ok c.in_ok-any-in-Any.any) gt gu gv c.loop-part-3-test.true c.part-item-in-loop-part-3.is c.loop-part-3.invariant.so c.in_ok-r-in-Any.ensures
    (λ part f h has mf mh. or_built part f h u v c.loop-part-3.any c.in_ok-r-in-Any.r (Ok c.in_ok-any-in-Any.any) has mf mh c.in_ok-any-in-Any.ensures) in
    let same : v.vars ≡ t.vars = b.spends.keeps.vars ∙ sym c.loop-part-3.invariant.so.so.keeps.vars in
    record {
      is = c.loop-part-3.invariant.is;
      reads = λ i d lt. subst (λ vars. IsTrue (reads vars (get_or es i d))) (sym same) (c.loop-part-3.invariant.reads i d lt);
      so = record { so = first work (HasFunction (so_far disjunction never es (k + 1))) s v (Ok c.in_ok-any-in-Any.any) b; means = b.ok };
    }

pub returns-in_err-any-in-Any : goal.returns-in_err-any-in-Any
returns-in_err-any-in-Any g m c =
    let s : Store = g.N.Nodes.store c.args.nodes.now in
    let t : Store = g.N.Nodes.store c.loop-part-3.nodes in
    let u : Store = g.N.Nodes.store c.build-in-loop-part-3.new.nodes in
    let v : Store = g.N.Nodes.store c.either.new.nodes in
    let gs = g.met.N.Nodes.diagram c.args.nodes.now in
    let gt = g.met.N.Nodes.diagram c.loop-part-3.nodes in
    let gu = g.met.N.Nodes.diagram c.build-in-loop-part-3.new.nodes in
    let gv = g.met.N.Nodes.diagram c.either.new.nodes in
    let es : List Expr = c.deref-part-items-in-Any.result.now in
    let k = c.loop-part-3.part-index in
    let work : List Function = work_of disjunction never es in
    let fault = c.in_err-any-in-Any.field-0.0 in
    let b = part_turn disjunction never es s t u v k c.part-item-in-loop-part-3.result c.loop-part-3.any c.in_ok-r-in-Any.r (Err fault) gt gu gv c.loop-part-3-test.true c.part-item-in-loop-part-3.is c.loop-part-3.invariant.so c.in_ok-r-in-Any.ensures
    (λ part f h has mf mh. or_built part f h u v c.loop-part-3.any c.in_ok-r-in-Any.r (Err fault) has mf mh c.in_err-any-in-Any.ensures) in
    subst (λ (b : SymbolicValue). Built b.work (HasFunction b.value) s v c.from_residual-in_err-any-in-Any.result) (sym c.loop-part-3.invariant.is)
    (pass work (HasFunction (so_far disjunction never es (k + 1))) (HasFunction (joined_parts disjunction never (map symbolic_value es)).value) s s v fault c.from_residual-in_err-any-in-Any.result gs gv (So-start work s) b c.from_residual-in_err-any-in-Any.ensures.1)

pub either-requires-clause-left : goal.either-requires-clause-left
either-requires-clause-left g m c =
    IsFrom-grows _ _ 0 _ c.in_ok-r-in-Any.ensures.spends.keeps.grows c.loop-part-3.invariant.so.means.ref

pub returns-after-loop-part-3 : goal.returns-after-loop-part-3
returns-after-loop-part-3 g m c =
    let s : Store = g.N.Nodes.store c.args.nodes.now in
    let t : Store = g.N.Nodes.store c.loop-part-3.nodes in
    let es : List Expr = c.deref-part-items-in-Any.result.now in
    let k = c.loop-part-3.part-index in
    let p = c.loop-part-3.invariant.so in
    let n = values_long es in
    let end : so_far disjunction never es k ≡ (joined_parts disjunction never (map symbolic_value es)).value = ap (whole disjunction never) (take_all k (values_of es) (omega (arith, n, c.loop-part-3-test.false))) in
    subst (λ (b : SymbolicValue). Built b.work (HasFunction b.value) s t (Ok c.loop-part-3.any)) (sym c.loop-part-3.invariant.is)
    (Built-made (work_of disjunction never es) (HasFunction (joined_parts disjunction never (map symbolic_value es)).value) s t c.loop-part-3.any p.so (subst (λ (f : Function). Means t f c.loop-part-3.any) end p.means))

-- ---- the others
built_bit : (b : Bool) → symbolic_value (tree.Const b) ≡ record { value = λ bits. b; work = (λ bits. b) ∷ [] }
built_bit b = ap symbolic_value (sym (tree.rolls-Const b)) ∙ fold-roll-Expr SymbolicValue symbolic_step _

pub returns-then-bit : goal.returns-then-bit
returns-then-bit g m c =
    let s : Store = g.N.Nodes.store c.args.nodes.now in
    subst (λ (e : Expr). Built (symbolic_value e).work (HasFunction (symbolic_value e).value) s s (Ok (record { 0 = 1 }))) (sym (c.in-Const.is ∙ ap tree.Const c.if-bit.true))
    (subst (λ (b : SymbolicValue). Built b.work (HasFunction b.value) s s (Ok (record { 0 = 1 }))) (sym (built_bit true))
    (Built-made ((λ bits. true) ∷ []) (HasFunction (λ bits. true)) s s (record { 0 = 1 }) (So-start ((λ bits. true) ∷ []) s) (one_means s (g.met.N.Nodes.diagram c.args.nodes.now))))

pub returns-else-bit : goal.returns-else-bit
returns-else-bit g m c =
    let s : Store = g.N.Nodes.store c.args.nodes.now in
    subst (λ (e : Expr). Built (symbolic_value e).work (HasFunction (symbolic_value e).value) s s (Ok (record { 0 = 0 }))) (sym (c.in-Const.is ∙ ap tree.Const c.if-bit.false))
    (subst (λ (b : SymbolicValue). Built b.work (HasFunction b.value) s s (Ok (record { 0 = 0 }))) (sym (built_bit false))
    (Built-made ((λ bits. false) ∷ []) (HasFunction (λ bits. false)) s s (record { 0 = 0 }) (So-start ((λ bits. false) ∷ []) s) (zero_means s (g.met.N.Nodes.diagram c.args.nodes.now))))

built_opposite : (b : Box Expr Global) → symbolic_value (tree.Not b) ≡ record { value = negation (symbolic_value b.value).value; work = (symbolic_value b.value).work ++ negation (symbolic_value b.value).value ∷ [] }
built_opposite b = ap symbolic_value (sym (tree.rolls-Not b)) ∙ fold-roll-Expr SymbolicValue symbolic_step _

pub returns-in_err-r-in-Not : goal.returns-in_err-r-in-Not
returns-in_err-r-in-Not g m c =
    let s : Store = g.N.Nodes.store c.args.nodes.now in
    let t : Store = g.N.Nodes.store c.build.new.nodes in
    let gs = g.met.N.Nodes.diagram c.args.nodes.now in
    let gt = g.met.N.Nodes.diagram c.build.new.nodes in
    let part : Expr = c.in-Not.part.value in
    let f : Function = (symbolic_value part).value in
    let work : List Function = (symbolic_value part).work ++ negation f ∷ [] in
    let fault = c.in_err-r-in-Not.field-0.0 in
    let a : Built (symbolic_value part).work (HasFunction f) s t (Err fault) = subst (λ (e : Expr). Built (symbolic_value e).work (HasFunction (symbolic_value e).value) s t (Err fault)) c.deref.ensures c.in_err-r-in-Not.ensures in
    subst (λ (e : Expr). Built (symbolic_value e).work (HasFunction (symbolic_value e).value) s t c.from_residual.result) (sym c.in-Not.is)
    (subst (λ (b : SymbolicValue). Built b.work (HasFunction b.value) s t c.from_residual.result) (sym (built_opposite c.in-Not.part))
    (pass work (HasFunction f) (HasFunction (negation f)) s s t fault c.from_residual.result gs gt (So-start work s)
    (Built-wider work (symbolic_value part).work (HasFunction f) s t (Err fault) (λ x h. Contains-append_left (symbolic_value part).work (negation f ∷ []) x h) a) c.from_residual.ensures.1))

pub returns-in_ok-r-in-Not : goal.returns-in_ok-r-in-Not
returns-in_ok-r-in-Not g m c =
    let s : Store = g.N.Nodes.store c.args.nodes.now in
    let t : Store = g.N.Nodes.store c.build.new.nodes in
    let u : Store = g.N.Nodes.store c.not.new.nodes in
    let gs = g.met.N.Nodes.diagram c.args.nodes.now in
    let gt = g.met.N.Nodes.diagram c.build.new.nodes in
    let gu = g.met.N.Nodes.diagram c.not.new.nodes in
    let part : Expr = c.in-Not.part.value in
    let f : Function = (symbolic_value part).value in
    let work : List Function = (symbolic_value part).work ++ negation f ∷ [] in
    let r = c.in_ok-r-in-Not.r in
    let a : Built (symbolic_value part).work (HasFunction f) s t (Ok r) = subst (λ (e : Expr). Built (symbolic_value e).work (HasFunction (symbolic_value e).value) s t (Ok r)) c.deref.ensures c.in_ok-r-in-Not.ensures in
    let b : Built work (HasFunction f) s t (Ok r) = Built-wider work (symbolic_value part).work (HasFunction f) s t (Ok r) (λ x h. Contains-append_left (symbolic_value part).work (negation f ∷ []) x h) a in
    subst (λ (e : Expr). Built (symbolic_value e).work (HasFunction (symbolic_value e).value) s u c.not.result) (sym c.in-Not.is)
    (subst (λ (b : SymbolicValue). Built b.work (HasFunction b.value) s u c.not.result) (sym (built_opposite c.in-Not.part))
    (last work (HasFunction (negation f)) s t u c.not.result gt gu (first work (HasFunction f) s t (Ok r) b)
    (not_built work f t u r c.not.result (Contains-append_right (symbolic_value part).work (negation f ∷ []) (negation f) (0, omega arith, refl)) a.ok c.not.ensures)))
