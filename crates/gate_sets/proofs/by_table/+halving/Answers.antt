use Rattle.std.proofs.Common.{◌≡◌, ℕ, All, List, Err, Ok, Some, None, Option, true, false, drop, length, arith, refl, sym, subst, ap, ◌∙◌}
use Rattle.dd_nodes.specs.Stores.{Store}
use Rattle.net_core.specs.Work.{SymbolicSet}
use Rattle.dual_rail.specs.declared.rails.Rails.{Rails}
use Rattle.dual_rail.specs.Rail.{AreRefs, Built, HasSet}
use Rattle.dual_rail.proofs.Works.{SoFar, So-start, Built-made, first, last, lost, more, pass}
use Rattle.gate_sets.specs.declared.truth_table.TruthTables.{TruthTables}
use Rattle.gate_sets.specs.private.TruthTables.{AreAlike, AreFrom, AreMet, HasSetOrNot, IsFull, half_rails, set_by_tables}
use Rattle.gate_sets.proofs.ByTable.{AreDone, AreOpen, GateMemo-keeps, Open-keeps, both_done, both_of, found, found_at, half_asked, half_of, half_off, half_on, high_done, low_done, met_back, met_found, met_put, part_from, settled_found, split_done, told_found}
use Rattle.gate_sets.proofs.by_table.+halving.Goals as goal

pub sum_at-returns-in_err-add_half-clause-built : goal.sum_at-returns-in_err-add_half-clause-built
sum_at-returns-in_err-add_half-clause-built g t0 c =
    let s : Store = g.N.Nodes.store c.args.nodes.now in
    let ds = g.met.N.Nodes.diagram c.args.nodes.now in
    let n : TruthTables = c.args.tables in
    let v : ℕ = c.args.var in
    let old : List Rails = c.args.stack.now.items in
    let ops : List Rails = drop c.args.begin old in
    let w : SymbolicSet = set_by_tables n s ops in
    let o : AreOpen s v ops = record { inside = c.requires.var; from = c.requires.from; refs = c.requires.refs; full = c.requires.full } in
    subst (λ (z : Store). Built (both_of w) (HasSetOrNot w) s z c.from_residual.result) (sym c.in_err-add_half.ensures.store) (lost (both_of w) (HasSetOrNot w) s s c.from_residual.result (So-start (both_of w) s) c.from_residual.ensures.1)

pub sum_at-sum_of-requires : goal.sum_at-sum_of-requires
sum_at-sum_of-requires g t0 c κs within =
    let s : Store = g.N.Nodes.store c.args.nodes.now in
    let ds = g.met.N.Nodes.diagram c.args.nodes.now in
    let n : TruthTables = c.args.tables in
    let v : ℕ = c.args.var in
    let old : List Rails = c.args.stack.now.items in
    let ops : List Rails = drop c.args.begin old in
    let w : SymbolicSet = set_by_tables n s ops in
    let o : AreOpen s v ops = record { inside = c.requires.var; from = c.requires.from; refs = c.requires.refs; full = c.requires.full } in
    let end : c.len-end.result ≡ length old = let e = c.len-end.ensures in omega (arith, e) in
    let zeros = half_on (half_rails s.held v false) c.len-end.result c.args.begin old old c.add_half.new.stack.items refl end c.in_ok-add_half.ensures.kept c.in_ok-add_half.ensures.half in
    let asked = half_asked s s (g.N.Nodes.store c.add_half.new.nodes) v false ops (drop c.len-end.result c.add_half.new.stack.items) c.args.met.now ds o refl c.in_ok-add_half.ensures.store zeros.1 c.requires.few c.requires.met in
    let now = c.decreases in
    let some = c.requires.deep in
    (omega (arith, now, some), (within, (zeros.0, (asked.0, (asked.1, (asked.2, asked.3))))))

pub sum_at-returns-in_err-lo-clause-built : goal.sum_at-returns-in_err-lo-clause-built
sum_at-returns-in_err-lo-clause-built g t0 c =
    let s : Store = g.N.Nodes.store c.args.nodes.now in
    let ds = g.met.N.Nodes.diagram c.args.nodes.now in
    let n : TruthTables = c.args.tables in
    let v : ℕ = c.args.var in
    let old : List Rails = c.args.stack.now.items in
    let ops : List Rails = drop c.args.begin old in
    let w : SymbolicSet = set_by_tables n s ops in
    let o : AreOpen s v ops = record { inside = c.requires.var; from = c.requires.from; refs = c.requires.refs; full = c.requires.full } in
    let end : c.len-end.result ≡ length old = let e = c.len-end.ensures in omega (arith, e) in
    let zeros = half_on (half_rails s.held v false) c.len-end.result c.args.begin old old c.add_half.new.stack.items refl end c.in_ok-add_half.ensures.kept c.in_ok-add_half.ensures.half in
    let t : Store = g.N.Nodes.store c.sum_of.new.nodes in
    let dt = g.met.N.Nodes.diagram c.sum_of.new.nodes in
    let p : SymbolicSet = set_by_tables n s (half_of s v false ops) in
    let low : Built (both_of w) (HasSetOrNot p) s t (Err c.in_err-lo.field-0.0) = low_done s v ops ds o n s (g.N.Nodes.store c.add_half.new.nodes) t (drop c.len-end.result c.add_half.new.stack.items) (Err c.in_err-lo.field-0.0) refl c.in_ok-add_half.ensures.store zeros.1 c.in_err-lo.ensures.built in
    pass (both_of w) (HasSetOrNot p) (HasSetOrNot w) s s t c.in_err-lo.field-0.0 c.from_residual-in_err-lo.result ds dt (So-start (both_of w) s) low c.from_residual-in_err-lo.ensures.1

pub sum_at-returns-in_default-clause-built : goal.sum_at-returns-in_default-clause-built
sum_at-returns-in_default-clause-built g t0 c =
    let s : Store = g.N.Nodes.store c.args.nodes.now in
    let ds = g.met.N.Nodes.diagram c.args.nodes.now in
    let n : TruthTables = c.args.tables in
    let v : ℕ = c.args.var in
    let old : List Rails = c.args.stack.now.items in
    let ops : List Rails = drop c.args.begin old in
    let w : SymbolicSet = set_by_tables n s ops in
    let o : AreOpen s v ops = record { inside = c.requires.var; from = c.requires.from; refs = c.requires.refs; full = c.requires.full } in
    let end : c.len-end.result ≡ length old = let e = c.len-end.ensures in omega (arith, e) in
    let zeros = half_on (half_rails s.held v false) c.len-end.result c.args.begin old old c.add_half.new.stack.items refl end c.in_ok-add_half.ensures.kept c.in_ok-add_half.ensures.half in
    let t : Store = g.N.Nodes.store c.sum_of.new.nodes in
    let dt = g.met.N.Nodes.diagram c.sum_of.new.nodes in
    let p : SymbolicSet = set_by_tables n s (half_of s v false ops) in
    let low : Built (both_of w) (HasSetOrNot p) s t (Ok c.in_ok-lo.lo) = low_done s v ops ds o n s (g.N.Nodes.store c.add_half.new.nodes) t (drop c.len-end.result c.add_half.new.stack.items) (Ok c.in_ok-lo.lo) refl c.in_ok-add_half.ensures.store zeros.1 c.in_ok-lo.ensures.built in
    let so : SoFar (both_of w) s t = first (both_of w) (HasSetOrNot p) s t (Ok c.in_ok-lo.lo) low in
    Built-made (both_of w) (HasSetOrNot w) s t None so tt

pub sum_at-returns-in_err-add_half-2-clause-built : goal.sum_at-returns-in_err-add_half-2-clause-built
sum_at-returns-in_err-add_half-2-clause-built g t0 c =
    let s : Store = g.N.Nodes.store c.args.nodes.now in
    let ds = g.met.N.Nodes.diagram c.args.nodes.now in
    let n : TruthTables = c.args.tables in
    let v : ℕ = c.args.var in
    let old : List Rails = c.args.stack.now.items in
    let ops : List Rails = drop c.args.begin old in
    let w : SymbolicSet = set_by_tables n s ops in
    let o : AreOpen s v ops = record { inside = c.requires.var; from = c.requires.from; refs = c.requires.refs; full = c.requires.full } in
    let end : c.len-end.result ≡ length old = let e = c.len-end.ensures in omega (arith, e) in
    let zeros = half_on (half_rails s.held v false) c.len-end.result c.args.begin old old c.add_half.new.stack.items refl end c.in_ok-add_half.ensures.kept c.in_ok-add_half.ensures.half in
    let t : Store = g.N.Nodes.store c.sum_of.new.nodes in
    let dt = g.met.N.Nodes.diagram c.sum_of.new.nodes in
    let p : SymbolicSet = set_by_tables n s (half_of s v false ops) in
    let low : Built (both_of w) (HasSetOrNot p) s t (Ok c.in_ok-lo.lo) = low_done s v ops ds o n s (g.N.Nodes.store c.add_half.new.nodes) t (drop c.len-end.result c.add_half.new.stack.items) (Ok c.in_ok-lo.lo) refl c.in_ok-add_half.ensures.store zeros.1 c.in_ok-lo.ensures.built in
    let so : SoFar (both_of w) s t = first (both_of w) (HasSetOrNot p) s t (Ok c.in_ok-lo.lo) low in
    subst (λ (z : Store). Built (both_of w) (HasSetOrNot w) s z c.from_residual-in_err-add_half-2.result) (sym c.in_err-add_half-2.ensures.store) (lost (both_of w) (HasSetOrNot w) s t c.from_residual-in_err-add_half-2.result so c.from_residual-in_err-add_half-2.ensures.1)

pub sum_at-sum_of-requires-2 : goal.sum_at-sum_of-requires-2
sum_at-sum_of-requires-2 g t0 c κs within =
    let s : Store = g.N.Nodes.store c.args.nodes.now in
    let ds = g.met.N.Nodes.diagram c.args.nodes.now in
    let n : TruthTables = c.args.tables in
    let v : ℕ = c.args.var in
    let old : List Rails = c.args.stack.now.items in
    let ops : List Rails = drop c.args.begin old in
    let w : SymbolicSet = set_by_tables n s ops in
    let o : AreOpen s v ops = record { inside = c.requires.var; from = c.requires.from; refs = c.requires.refs; full = c.requires.full } in
    let end : c.len-end.result ≡ length old = let e = c.len-end.ensures in omega (arith, e) in
    let zeros = half_on (half_rails s.held v false) c.len-end.result c.args.begin old old c.add_half.new.stack.items refl end c.in_ok-add_half.ensures.kept c.in_ok-add_half.ensures.half in
    let t : Store = g.N.Nodes.store c.sum_of.new.nodes in
    let dt = g.met.N.Nodes.diagram c.sum_of.new.nodes in
    let p : SymbolicSet = set_by_tables n s (half_of s v false ops) in
    let low : Built (both_of w) (HasSetOrNot p) s t (Ok c.in_ok-lo.lo) = low_done s v ops ds o n s (g.N.Nodes.store c.add_half.new.nodes) t (drop c.len-end.result c.add_half.new.stack.items) (Ok c.in_ok-lo.lo) refl c.in_ok-add_half.ensures.store zeros.1 c.in_ok-lo.ensures.built in
    let so : SoFar (both_of w) s t = first (both_of w) (HasSetOrNot p) s t (Ok c.in_ok-lo.lo) low in
    let back = half_off c.len-end.result old old c.add_half.new.stack.items c.sum_of.new.stack.items c.truncate.new.self.items refl end c.in_ok-add_half.ensures.kept c.in_ok-lo.ensures.kept c.truncate.ensures.items in
    let ones = half_on (half_rails t.held v true) c.len-end.result c.args.begin old c.truncate.new.self.items c.add_half-2.new.stack.items back end c.in_ok-add_half-2.ensures.kept c.in_ok-add_half-2.ensures.half in
    let met = met_back s t v false ops (drop c.len-end.result c.add_half.new.stack.items) c.sum_of.new.met zeros.1 c.in_ok-lo.ensures.met in
    let asked = half_asked t t (g.N.Nodes.store c.add_half-2.new.nodes) v true ops (drop c.len-end.result c.add_half-2.new.stack.items) c.sum_of.new.met dt (Open-keeps s t v ops ds dt so.keeps o) refl c.in_ok-add_half-2.ensures.store ones.1 c.requires.few met in
    let now = c.decreases in
    let some = c.requires.deep in
    (omega (arith, now, some), (within, (ones.0, (asked.0, (asked.1, (asked.2, asked.3))))))

pub sum_at-returns-in_err-hi-clause-built : goal.sum_at-returns-in_err-hi-clause-built
sum_at-returns-in_err-hi-clause-built g t0 c =
    let s : Store = g.N.Nodes.store c.args.nodes.now in
    let ds = g.met.N.Nodes.diagram c.args.nodes.now in
    let n : TruthTables = c.args.tables in
    let v : ℕ = c.args.var in
    let old : List Rails = c.args.stack.now.items in
    let ops : List Rails = drop c.args.begin old in
    let w : SymbolicSet = set_by_tables n s ops in
    let o : AreOpen s v ops = record { inside = c.requires.var; from = c.requires.from; refs = c.requires.refs; full = c.requires.full } in
    let end : c.len-end.result ≡ length old = let e = c.len-end.ensures in omega (arith, e) in
    let zeros = half_on (half_rails s.held v false) c.len-end.result c.args.begin old old c.add_half.new.stack.items refl end c.in_ok-add_half.ensures.kept c.in_ok-add_half.ensures.half in
    let t : Store = g.N.Nodes.store c.sum_of.new.nodes in
    let dt = g.met.N.Nodes.diagram c.sum_of.new.nodes in
    let p : SymbolicSet = set_by_tables n s (half_of s v false ops) in
    let low : Built (both_of w) (HasSetOrNot p) s t (Ok c.in_ok-lo.lo) = low_done s v ops ds o n s (g.N.Nodes.store c.add_half.new.nodes) t (drop c.len-end.result c.add_half.new.stack.items) (Ok c.in_ok-lo.lo) refl c.in_ok-add_half.ensures.store zeros.1 c.in_ok-lo.ensures.built in
    let so : SoFar (both_of w) s t = first (both_of w) (HasSetOrNot p) s t (Ok c.in_ok-lo.lo) low in
    let back = half_off c.len-end.result old old c.add_half.new.stack.items c.sum_of.new.stack.items c.truncate.new.self.items refl end c.in_ok-add_half.ensures.kept c.in_ok-lo.ensures.kept c.truncate.ensures.items in
    let ones = half_on (half_rails t.held v true) c.len-end.result c.args.begin old c.truncate.new.self.items c.add_half-2.new.stack.items back end c.in_ok-add_half-2.ensures.kept c.in_ok-add_half-2.ensures.half in
    let u : Store = g.N.Nodes.store c.sum_of-2.new.nodes in
    let du = g.met.N.Nodes.diagram c.sum_of-2.new.nodes in
    let q : SymbolicSet = set_by_tables n s (half_of s v true ops) in
    let high : Built (both_of w) (HasSetOrNot q) t u (Err c.in_err-hi.field-0.0) = high_done s v ops ds o n t (g.N.Nodes.store c.add_half-2.new.nodes) u (drop c.len-end.result c.add_half-2.new.stack.items) (Err c.in_err-hi.field-0.0) dt so.keeps c.in_ok-add_half-2.ensures.store ones.1 c.in_err-hi.ensures.built in
    pass (both_of w) (HasSetOrNot q) (HasSetOrNot w) s t u c.in_err-hi.field-0.0 c.from_residual-in_err-hi.result dt du so high c.from_residual-in_err-hi.ensures.1

pub sum_at-returns-in_default-hi-clause-built : goal.sum_at-returns-in_default-hi-clause-built
sum_at-returns-in_default-hi-clause-built g t0 c =
    let s : Store = g.N.Nodes.store c.args.nodes.now in
    let ds = g.met.N.Nodes.diagram c.args.nodes.now in
    let n : TruthTables = c.args.tables in
    let v : ℕ = c.args.var in
    let old : List Rails = c.args.stack.now.items in
    let ops : List Rails = drop c.args.begin old in
    let w : SymbolicSet = set_by_tables n s ops in
    let o : AreOpen s v ops = record { inside = c.requires.var; from = c.requires.from; refs = c.requires.refs; full = c.requires.full } in
    let end : c.len-end.result ≡ length old = let e = c.len-end.ensures in omega (arith, e) in
    let zeros = half_on (half_rails s.held v false) c.len-end.result c.args.begin old old c.add_half.new.stack.items refl end c.in_ok-add_half.ensures.kept c.in_ok-add_half.ensures.half in
    let t : Store = g.N.Nodes.store c.sum_of.new.nodes in
    let dt = g.met.N.Nodes.diagram c.sum_of.new.nodes in
    let p : SymbolicSet = set_by_tables n s (half_of s v false ops) in
    let low : Built (both_of w) (HasSetOrNot p) s t (Ok c.in_ok-lo.lo) = low_done s v ops ds o n s (g.N.Nodes.store c.add_half.new.nodes) t (drop c.len-end.result c.add_half.new.stack.items) (Ok c.in_ok-lo.lo) refl c.in_ok-add_half.ensures.store zeros.1 c.in_ok-lo.ensures.built in
    let so : SoFar (both_of w) s t = first (both_of w) (HasSetOrNot p) s t (Ok c.in_ok-lo.lo) low in
    let back = half_off c.len-end.result old old c.add_half.new.stack.items c.sum_of.new.stack.items c.truncate.new.self.items refl end c.in_ok-add_half.ensures.kept c.in_ok-lo.ensures.kept c.truncate.ensures.items in
    let ones = half_on (half_rails t.held v true) c.len-end.result c.args.begin old c.truncate.new.self.items c.add_half-2.new.stack.items back end c.in_ok-add_half-2.ensures.kept c.in_ok-add_half-2.ensures.half in
    let u : Store = g.N.Nodes.store c.sum_of-2.new.nodes in
    let du = g.met.N.Nodes.diagram c.sum_of-2.new.nodes in
    let q : SymbolicSet = set_by_tables n s (half_of s v true ops) in
    let high : Built (both_of w) (HasSetOrNot q) t u (Ok c.in_ok-hi.hi) = high_done s v ops ds o n t (g.N.Nodes.store c.add_half-2.new.nodes) u (drop c.len-end.result c.add_half-2.new.stack.items) (Ok c.in_ok-hi.hi) dt so.keeps c.in_ok-add_half-2.ensures.store ones.1 c.in_ok-hi.ensures.built in
    Built-made (both_of w) (HasSetOrNot w) s u None (more (both_of w) (HasSetOrNot q) s t u (Ok c.in_ok-hi.hi) dt du so high) tt

pub sum_at-split_set-requires-clause-lo : goal.sum_at-split_set-requires-clause-lo
sum_at-split_set-requires-clause-lo g t0 c =
    let s : Store = g.N.Nodes.store c.args.nodes.now in
    let ds = g.met.N.Nodes.diagram c.args.nodes.now in
    let n : TruthTables = c.args.tables in
    let v : ℕ = c.args.var in
    let old : List Rails = c.args.stack.now.items in
    let ops : List Rails = drop c.args.begin old in
    let w : SymbolicSet = set_by_tables n s ops in
    let o : AreOpen s v ops = record { inside = c.requires.var; from = c.requires.from; refs = c.requires.refs; full = c.requires.full } in
    let end : c.len-end.result ≡ length old = let e = c.len-end.ensures in omega (arith, e) in
    let zeros = half_on (half_rails s.held v false) c.len-end.result c.args.begin old old c.add_half.new.stack.items refl end c.in_ok-add_half.ensures.kept c.in_ok-add_half.ensures.half in
    let t : Store = g.N.Nodes.store c.sum_of.new.nodes in
    let dt = g.met.N.Nodes.diagram c.sum_of.new.nodes in
    let p : SymbolicSet = set_by_tables n s (half_of s v false ops) in
    let low : Built (both_of w) (HasSetOrNot p) s t (Ok c.in_ok-lo.lo) = low_done s v ops ds o n s (g.N.Nodes.store c.add_half.new.nodes) t (drop c.len-end.result c.add_half.new.stack.items) (Ok c.in_ok-lo.lo) refl c.in_ok-add_half.ensures.store zeros.1 c.in_ok-lo.ensures.built in
    let so : SoFar (both_of w) s t = first (both_of w) (HasSetOrNot p) s t (Ok c.in_ok-lo.lo) low in
    let back = half_off c.len-end.result old old c.add_half.new.stack.items c.sum_of.new.stack.items c.truncate.new.self.items refl end c.in_ok-add_half.ensures.kept c.in_ok-lo.ensures.kept c.truncate.ensures.items in
    let ones = half_on (half_rails t.held v true) c.len-end.result c.args.begin old c.truncate.new.self.items c.add_half-2.new.stack.items back end c.in_ok-add_half-2.ensures.kept c.in_ok-add_half-2.ensures.half in
    let u : Store = g.N.Nodes.store c.sum_of-2.new.nodes in
    let du = g.met.N.Nodes.diagram c.sum_of-2.new.nodes in
    let q : SymbolicSet = set_by_tables n s (half_of s v true ops) in
    let high : Built (both_of w) (HasSetOrNot q) t u (Ok c.in_ok-hi.hi) = high_done s v ops ds o n t (g.N.Nodes.store c.add_half-2.new.nodes) u (drop c.len-end.result c.add_half-2.new.stack.items) (Ok c.in_ok-hi.hi) dt so.keeps c.in_ok-add_half-2.ensures.store ones.1 c.in_ok-hi.ensures.built in
    let done : AreDone s v ops ds o n u c.in-Some.lo c.in-Some-hi.hi = both_done s v ops ds o n t u c.in_ok-lo.lo c.in_ok-hi.hi c.in-Some.lo c.in-Some-hi.hi dt du c.in-Some.is c.in-Some-hi.is low high in
    part_from s v ops ds o n u false c.in-Some.lo du done.so.keeps done.low

pub sum_at-split_set-requires-clause-hi : goal.sum_at-split_set-requires-clause-hi
sum_at-split_set-requires-clause-hi g t0 c =
    let s : Store = g.N.Nodes.store c.args.nodes.now in
    let ds = g.met.N.Nodes.diagram c.args.nodes.now in
    let n : TruthTables = c.args.tables in
    let v : ℕ = c.args.var in
    let old : List Rails = c.args.stack.now.items in
    let ops : List Rails = drop c.args.begin old in
    let w : SymbolicSet = set_by_tables n s ops in
    let o : AreOpen s v ops = record { inside = c.requires.var; from = c.requires.from; refs = c.requires.refs; full = c.requires.full } in
    let end : c.len-end.result ≡ length old = let e = c.len-end.ensures in omega (arith, e) in
    let zeros = half_on (half_rails s.held v false) c.len-end.result c.args.begin old old c.add_half.new.stack.items refl end c.in_ok-add_half.ensures.kept c.in_ok-add_half.ensures.half in
    let t : Store = g.N.Nodes.store c.sum_of.new.nodes in
    let dt = g.met.N.Nodes.diagram c.sum_of.new.nodes in
    let p : SymbolicSet = set_by_tables n s (half_of s v false ops) in
    let low : Built (both_of w) (HasSetOrNot p) s t (Ok c.in_ok-lo.lo) = low_done s v ops ds o n s (g.N.Nodes.store c.add_half.new.nodes) t (drop c.len-end.result c.add_half.new.stack.items) (Ok c.in_ok-lo.lo) refl c.in_ok-add_half.ensures.store zeros.1 c.in_ok-lo.ensures.built in
    let so : SoFar (both_of w) s t = first (both_of w) (HasSetOrNot p) s t (Ok c.in_ok-lo.lo) low in
    let back = half_off c.len-end.result old old c.add_half.new.stack.items c.sum_of.new.stack.items c.truncate.new.self.items refl end c.in_ok-add_half.ensures.kept c.in_ok-lo.ensures.kept c.truncate.ensures.items in
    let ones = half_on (half_rails t.held v true) c.len-end.result c.args.begin old c.truncate.new.self.items c.add_half-2.new.stack.items back end c.in_ok-add_half-2.ensures.kept c.in_ok-add_half-2.ensures.half in
    let u : Store = g.N.Nodes.store c.sum_of-2.new.nodes in
    let du = g.met.N.Nodes.diagram c.sum_of-2.new.nodes in
    let q : SymbolicSet = set_by_tables n s (half_of s v true ops) in
    let high : Built (both_of w) (HasSetOrNot q) t u (Ok c.in_ok-hi.hi) = high_done s v ops ds o n t (g.N.Nodes.store c.add_half-2.new.nodes) u (drop c.len-end.result c.add_half-2.new.stack.items) (Ok c.in_ok-hi.hi) dt so.keeps c.in_ok-add_half-2.ensures.store ones.1 c.in_ok-hi.ensures.built in
    let done : AreDone s v ops ds o n u c.in-Some.lo c.in-Some-hi.hi = both_done s v ops ds o n t u c.in_ok-lo.lo c.in_ok-hi.hi c.in-Some.lo c.in-Some-hi.hi dt du c.in-Some.is c.in-Some-hi.is low high in
    part_from s v ops ds o n u true c.in-Some-hi.hi du done.so.keeps done.high

pub sum_at-returns-in_err-split_set-clause-built : goal.sum_at-returns-in_err-split_set-clause-built
sum_at-returns-in_err-split_set-clause-built g t0 c =
    let s : Store = g.N.Nodes.store c.args.nodes.now in
    let ds = g.met.N.Nodes.diagram c.args.nodes.now in
    let n : TruthTables = c.args.tables in
    let v : ℕ = c.args.var in
    let old : List Rails = c.args.stack.now.items in
    let ops : List Rails = drop c.args.begin old in
    let w : SymbolicSet = set_by_tables n s ops in
    let o : AreOpen s v ops = record { inside = c.requires.var; from = c.requires.from; refs = c.requires.refs; full = c.requires.full } in
    let end : c.len-end.result ≡ length old = let e = c.len-end.ensures in omega (arith, e) in
    let zeros = half_on (half_rails s.held v false) c.len-end.result c.args.begin old old c.add_half.new.stack.items refl end c.in_ok-add_half.ensures.kept c.in_ok-add_half.ensures.half in
    let t : Store = g.N.Nodes.store c.sum_of.new.nodes in
    let dt = g.met.N.Nodes.diagram c.sum_of.new.nodes in
    let p : SymbolicSet = set_by_tables n s (half_of s v false ops) in
    let low : Built (both_of w) (HasSetOrNot p) s t (Ok c.in_ok-lo.lo) = low_done s v ops ds o n s (g.N.Nodes.store c.add_half.new.nodes) t (drop c.len-end.result c.add_half.new.stack.items) (Ok c.in_ok-lo.lo) refl c.in_ok-add_half.ensures.store zeros.1 c.in_ok-lo.ensures.built in
    let so : SoFar (both_of w) s t = first (both_of w) (HasSetOrNot p) s t (Ok c.in_ok-lo.lo) low in
    let back = half_off c.len-end.result old old c.add_half.new.stack.items c.sum_of.new.stack.items c.truncate.new.self.items refl end c.in_ok-add_half.ensures.kept c.in_ok-lo.ensures.kept c.truncate.ensures.items in
    let ones = half_on (half_rails t.held v true) c.len-end.result c.args.begin old c.truncate.new.self.items c.add_half-2.new.stack.items back end c.in_ok-add_half-2.ensures.kept c.in_ok-add_half-2.ensures.half in
    let u : Store = g.N.Nodes.store c.sum_of-2.new.nodes in
    let du = g.met.N.Nodes.diagram c.sum_of-2.new.nodes in
    let q : SymbolicSet = set_by_tables n s (half_of s v true ops) in
    let high : Built (both_of w) (HasSetOrNot q) t u (Ok c.in_ok-hi.hi) = high_done s v ops ds o n t (g.N.Nodes.store c.add_half-2.new.nodes) u (drop c.len-end.result c.add_half-2.new.stack.items) (Ok c.in_ok-hi.hi) dt so.keeps c.in_ok-add_half-2.ensures.store ones.1 c.in_ok-hi.ensures.built in
    let done : AreDone s v ops ds o n u c.in-Some.lo c.in-Some-hi.hi = both_done s v ops ds o n t u c.in_ok-lo.lo c.in_ok-hi.hi c.in-Some.lo c.in-Some-hi.hi dt du c.in-Some.is c.in-Some-hi.is low high in
    let x : Store = g.N.Nodes.store c.split_set.new.nodes in
    let dx = g.met.N.Nodes.diagram c.split_set.new.nodes in
    let split : Built (both_of w) (HasSet w) u x (Err c.in_err-split_set.field-0.0) = split_done s v ops ds o n u x c.in-Some.lo c.in-Some-hi.hi (Err c.in_err-split_set.field-0.0) du done c.in_err-split_set.ensures in
    pass (both_of w) (HasSet w) (HasSetOrNot w) s u x c.in_err-split_set.field-0.0 c.from_residual-in_err-split_set.result du dx done.so split c.from_residual-in_err-split_set.ensures.1

pub sum_at-returns-clause-met : goal.sum_at-returns-clause-met
sum_at-returns-clause-met g t0 c =
    let s : Store = g.N.Nodes.store c.args.nodes.now in
    let ds = g.met.N.Nodes.diagram c.args.nodes.now in
    let n : TruthTables = c.args.tables in
    let v : ℕ = c.args.var in
    let old : List Rails = c.args.stack.now.items in
    let ops : List Rails = drop c.args.begin old in
    let w : SymbolicSet = set_by_tables n s ops in
    let o : AreOpen s v ops = record { inside = c.requires.var; from = c.requires.from; refs = c.requires.refs; full = c.requires.full } in
    let end : c.len-end.result ≡ length old = let e = c.len-end.ensures in omega (arith, e) in
    let zeros = half_on (half_rails s.held v false) c.len-end.result c.args.begin old old c.add_half.new.stack.items refl end c.in_ok-add_half.ensures.kept c.in_ok-add_half.ensures.half in
    let t : Store = g.N.Nodes.store c.sum_of.new.nodes in
    let dt = g.met.N.Nodes.diagram c.sum_of.new.nodes in
    let p : SymbolicSet = set_by_tables n s (half_of s v false ops) in
    let low : Built (both_of w) (HasSetOrNot p) s t (Ok c.in_ok-lo.lo) = low_done s v ops ds o n s (g.N.Nodes.store c.add_half.new.nodes) t (drop c.len-end.result c.add_half.new.stack.items) (Ok c.in_ok-lo.lo) refl c.in_ok-add_half.ensures.store zeros.1 c.in_ok-lo.ensures.built in
    let so : SoFar (both_of w) s t = first (both_of w) (HasSetOrNot p) s t (Ok c.in_ok-lo.lo) low in
    let back = half_off c.len-end.result old old c.add_half.new.stack.items c.sum_of.new.stack.items c.truncate.new.self.items refl end c.in_ok-add_half.ensures.kept c.in_ok-lo.ensures.kept c.truncate.ensures.items in
    let ones = half_on (half_rails t.held v true) c.len-end.result c.args.begin old c.truncate.new.self.items c.add_half-2.new.stack.items back end c.in_ok-add_half-2.ensures.kept c.in_ok-add_half-2.ensures.half in
    let u : Store = g.N.Nodes.store c.sum_of-2.new.nodes in
    let du = g.met.N.Nodes.diagram c.sum_of-2.new.nodes in
    let q : SymbolicSet = set_by_tables n s (half_of s v true ops) in
    let high : Built (both_of w) (HasSetOrNot q) t u (Ok c.in_ok-hi.hi) = high_done s v ops ds o n t (g.N.Nodes.store c.add_half-2.new.nodes) u (drop c.len-end.result c.add_half-2.new.stack.items) (Ok c.in_ok-hi.hi) dt so.keeps c.in_ok-add_half-2.ensures.store ones.1 c.in_ok-hi.ensures.built in
    let done : AreDone s v ops ds o n u c.in-Some.lo c.in-Some-hi.hi = both_done s v ops ds o n t u c.in_ok-lo.lo c.in_ok-hi.hi c.in-Some.lo c.in-Some-hi.hi dt du c.in-Some.is c.in-Some-hi.is low high in
    let x : Store = g.N.Nodes.store c.split_set.new.nodes in
    let dx = g.met.N.Nodes.diagram c.split_set.new.nodes in
    let split : Built (both_of w) (HasSet w) u x (Ok c.in_ok-split_set.field-0) = split_done s v ops ds o n u x c.in-Some.lo c.in-Some-hi.hi (Ok c.in_ok-split_set.field-0) du done c.in_ok-split_set.ensures in
    GateMemo-keeps u x (length ops) c.sum_of-2.new.met du dx split.spends.keeps (met_back t u v true ops (drop c.len-end.result c.add_half-2.new.stack.items) c.sum_of-2.new.met ones.1 c.in_ok-hi.ensures.met)

pub sum_at-returns-clause-built : goal.sum_at-returns-clause-built
sum_at-returns-clause-built g t0 c =
    let s : Store = g.N.Nodes.store c.args.nodes.now in
    let ds = g.met.N.Nodes.diagram c.args.nodes.now in
    let n : TruthTables = c.args.tables in
    let v : ℕ = c.args.var in
    let old : List Rails = c.args.stack.now.items in
    let ops : List Rails = drop c.args.begin old in
    let w : SymbolicSet = set_by_tables n s ops in
    let o : AreOpen s v ops = record { inside = c.requires.var; from = c.requires.from; refs = c.requires.refs; full = c.requires.full } in
    let end : c.len-end.result ≡ length old = let e = c.len-end.ensures in omega (arith, e) in
    let zeros = half_on (half_rails s.held v false) c.len-end.result c.args.begin old old c.add_half.new.stack.items refl end c.in_ok-add_half.ensures.kept c.in_ok-add_half.ensures.half in
    let t : Store = g.N.Nodes.store c.sum_of.new.nodes in
    let dt = g.met.N.Nodes.diagram c.sum_of.new.nodes in
    let p : SymbolicSet = set_by_tables n s (half_of s v false ops) in
    let low : Built (both_of w) (HasSetOrNot p) s t (Ok c.in_ok-lo.lo) = low_done s v ops ds o n s (g.N.Nodes.store c.add_half.new.nodes) t (drop c.len-end.result c.add_half.new.stack.items) (Ok c.in_ok-lo.lo) refl c.in_ok-add_half.ensures.store zeros.1 c.in_ok-lo.ensures.built in
    let so : SoFar (both_of w) s t = first (both_of w) (HasSetOrNot p) s t (Ok c.in_ok-lo.lo) low in
    let back = half_off c.len-end.result old old c.add_half.new.stack.items c.sum_of.new.stack.items c.truncate.new.self.items refl end c.in_ok-add_half.ensures.kept c.in_ok-lo.ensures.kept c.truncate.ensures.items in
    let ones = half_on (half_rails t.held v true) c.len-end.result c.args.begin old c.truncate.new.self.items c.add_half-2.new.stack.items back end c.in_ok-add_half-2.ensures.kept c.in_ok-add_half-2.ensures.half in
    let u : Store = g.N.Nodes.store c.sum_of-2.new.nodes in
    let du = g.met.N.Nodes.diagram c.sum_of-2.new.nodes in
    let q : SymbolicSet = set_by_tables n s (half_of s v true ops) in
    let high : Built (both_of w) (HasSetOrNot q) t u (Ok c.in_ok-hi.hi) = high_done s v ops ds o n t (g.N.Nodes.store c.add_half-2.new.nodes) u (drop c.len-end.result c.add_half-2.new.stack.items) (Ok c.in_ok-hi.hi) dt so.keeps c.in_ok-add_half-2.ensures.store ones.1 c.in_ok-hi.ensures.built in
    let done : AreDone s v ops ds o n u c.in-Some.lo c.in-Some-hi.hi = both_done s v ops ds o n t u c.in_ok-lo.lo c.in_ok-hi.hi c.in-Some.lo c.in-Some-hi.hi dt du c.in-Some.is c.in-Some-hi.is low high in
    let x : Store = g.N.Nodes.store c.split_set.new.nodes in
    let dx = g.met.N.Nodes.diagram c.split_set.new.nodes in
    let split : Built (both_of w) (HasSet w) u x (Ok c.in_ok-split_set.field-0) = split_done s v ops ds o n u x c.in-Some.lo c.in-Some-hi.hi (Ok c.in_ok-split_set.field-0) du done c.in_ok-split_set.ensures in
    found w s x c.in_ok-split_set.field-0 (last (both_of w) (HasSet w) s u x (Ok c.in_ok-split_set.field-0) du dx done.so split)

pub sum_of-returns-in-Some-clause-built : goal.sum_of-returns-in-Some-clause-built
sum_of-returns-in-Some-clause-built g t0 c =
    let s : Store = g.N.Nodes.store c.args.nodes.now in
    let ds = g.met.N.Nodes.diagram c.args.nodes.now in
    let before : TruthTables = c.args.tables in
    let after : TruthTables = c.settle_from-tables.result in
    let old : List Rails = drop c.args.begin c.args.stack.now.items in
    let new : List Rails = drop c.args.begin c.settle_from-tables.new.stack.items in
    let alike : AreAlike before after old new = c.settle_from-tables.ensures.alike in
    let refs : All (AreRefs s) new = alike.refs s ds c.requires.refs in
    let full : All (IsFull s) new = alike.full s ds c.requires.full in
    settled_found s s before after old new (Ok (Some c.in-Some.r)) ds alike c.requires.full (told_found s after new c.operands_from.result.now c.in-Some.r ds c.operands_from.ensures c.in-Some.ensures refs full)

pub sum_of-returns-in-Some-find-clause-built : goal.sum_of-returns-in-Some-find-clause-built
sum_of-returns-in-Some-find-clause-built g t0 c =
    let s : Store = g.N.Nodes.store c.args.nodes.now in
    let ds = g.met.N.Nodes.diagram c.args.nodes.now in
    let before : TruthTables = c.args.tables in
    let after : TruthTables = c.settle_from-tables.result in
    let old : List Rails = drop c.args.begin c.args.stack.now.items in
    let new : List Rails = drop c.args.begin c.settle_from-tables.new.stack.items in
    let alike : AreAlike before after old new = c.settle_from-tables.ensures.alike in
    let met : AreMet s (length new) c.args.met.now = subst (λ (k : ℕ). AreMet s k c.args.met.now) (sym alike.long) c.requires.met in
    settled_found s s before after old new (Ok (Some c.in-Some-find.r)) ds alike c.requires.full (met_found s after new c.operands_from-3.result.now c.args.met.now c.in-Some-find.r c.operands_from-3.ensures met (c.in-Some-find.ensures s))

pub sum_of-returns-then-depth-eq0-clause-built : goal.sum_of-returns-then-depth-eq0-clause-built
sum_of-returns-then-depth-eq0-clause-built g t0 c =
    let s : Store = g.N.Nodes.store c.args.nodes.now in
    let w : SymbolicSet = set_by_tables c.args.tables s (drop c.args.begin c.args.stack.now.items) in
    subst (λ (z : Store). Built (both_of w) (HasSetOrNot w) s z (Ok None)) (sym c.first_variable-var.ensures.store) (Built-made (both_of w) (HasSetOrNot w) s s None (So-start (both_of w) s) tt)

pub sum_of-sum_at-requires : goal.sum_of-sum_at-requires
sum_of-sum_at-requires g t0 c κs within =
    let s : Store = g.N.Nodes.store c.args.nodes.now in
    let ds = g.met.N.Nodes.diagram c.args.nodes.now in
    let before : TruthTables = c.args.tables in
    let after : TruthTables = c.settle_from-tables.result in
    let old : List Rails = drop c.args.begin c.args.stack.now.items in
    let new : List Rails = drop c.args.begin c.settle_from-tables.new.stack.items in
    let alike : AreAlike before after old new = c.settle_from-tables.ensures.alike in
    let refs : All (AreRefs s) new = alike.refs s ds c.requires.refs in
    let full : All (IsFull s) new = alike.full s ds c.requires.full in
    let met : AreMet s (length new) c.args.met.now = subst (λ (k : ℕ). AreMet s k c.args.met.now) (sym alike.long) c.requires.met in
    let y : Store = g.N.Nodes.store c.first_variable-var.new.nodes in
    let is : y ≡ s = c.first_variable-var.ensures.store in
    let from : All (AreFrom s.held c.first_variable-var.result) new = subst (All (AreFrom s.held c.first_variable-var.result)) c.operands_from-4.ensures c.first_variable-var.ensures.from in
    let now = c.decreases in
    let some = c.if-depth-eq0.false in
    let long = c.settle_from-tables.ensures.long in
    let begun = c.requires.begin in
    let few = c.requires.few in
    let same = alike.long in
    let less = c.if-var-vars.false in
    let vars = c.vars.ensures in (
      omega (arith, now, some),
      (
        within,
        (
          omega (arith, long, begun),
          (
            omega (arith, same, few),
            (
              subst (λ (z : Store). All (AreRefs z) new) (sym is) refs,
              (
                subst (λ (z : Store). All (IsFull z) new) (sym is) full,
                (
                  subst (λ (z : Store). AreMet z (length new) c.args.met.now) (sym is) met,
                  (omega (arith, less, vars), (subst (λ (z : Store). All (AreFrom z.held c.first_variable-var.result) new) (sym is) from, omega (arith, some))),
                ),
              ),
            ),
          ),
        ),
      ),
    )

pub sum_of-returns-in_err-r-clause-built : goal.sum_of-returns-in_err-r-clause-built
sum_of-returns-in_err-r-clause-built g t0 c =
    let s : Store = g.N.Nodes.store c.args.nodes.now in
    let ds = g.met.N.Nodes.diagram c.args.nodes.now in
    let before : TruthTables = c.args.tables in
    let after : TruthTables = c.settle_from-tables.result in
    let old : List Rails = drop c.args.begin c.args.stack.now.items in
    let new : List Rails = drop c.args.begin c.settle_from-tables.new.stack.items in
    let alike : AreAlike before after old new = c.settle_from-tables.ensures.alike in
    let w : SymbolicSet = set_by_tables before s old in
    let y : Store = g.N.Nodes.store c.first_variable-var.new.nodes in
    let is : y ≡ s = c.first_variable-var.ensures.store in
    let t : Store = g.N.Nodes.store c.sum_at.new.nodes in
    let dt = g.met.N.Nodes.diagram c.sum_at.new.nodes in
    let call : Built (both_of (set_by_tables after s new)) (HasSetOrNot (set_by_tables after s new)) s t (Err c.in_err-r.field-0.0) = found_at s y t after new (Err c.in_err-r.field-0.0) is c.in_err-r.ensures.built in
    let whole : Built (both_of w) (HasSetOrNot w) s t (Err c.in_err-r.field-0.0) = settled_found s t before after old new (Err c.in_err-r.field-0.0) ds alike c.requires.full call in
    pass (both_of w) (HasSetOrNot w) (HasSetOrNot w) s s t c.in_err-r.field-0.0 c.from_residual.result ds dt (So-start (both_of w) s) whole c.from_residual.ensures.1

pub sum_of-returns-in_default-2-clause-built : goal.sum_of-returns-in_default-2-clause-built
sum_of-returns-in_default-2-clause-built g t0 c =
    let s : Store = g.N.Nodes.store c.args.nodes.now in
    let ds = g.met.N.Nodes.diagram c.args.nodes.now in
    let before : TruthTables = c.args.tables in
    let after : TruthTables = c.settle_from-tables.result in
    let old : List Rails = drop c.args.begin c.args.stack.now.items in
    let new : List Rails = drop c.args.begin c.settle_from-tables.new.stack.items in
    let alike : AreAlike before after old new = c.settle_from-tables.ensures.alike in
    let w : SymbolicSet = set_by_tables before s old in
    let y : Store = g.N.Nodes.store c.first_variable-var.new.nodes in
    let is : y ≡ s = c.first_variable-var.ensures.store in
    let t : Store = g.N.Nodes.store c.sum_at.new.nodes in
    let dt = g.met.N.Nodes.diagram c.sum_at.new.nodes in
    let call : Built (both_of (set_by_tables after s new)) (HasSetOrNot (set_by_tables after s new)) s t (Ok c.in_ok-r.field-0) = found_at s y t after new (Ok c.in_ok-r.field-0) is c.in_ok-r.ensures.built in
    let whole : Built (both_of w) (HasSetOrNot w) s t (Ok c.in_ok-r.field-0) = settled_found s t before after old new (Ok c.in_ok-r.field-0) ds alike c.requires.full call in
    Built-made (both_of w) (HasSetOrNot w) s t None (first (both_of w) (HasSetOrNot w) s t (Ok c.in_ok-r.field-0) whole) tt

pub sum_of-returns-in_err-put-clause-built : goal.sum_of-returns-in_err-put-clause-built
sum_of-returns-in_err-put-clause-built g t0 c =
    let s : Store = g.N.Nodes.store c.args.nodes.now in
    let ds = g.met.N.Nodes.diagram c.args.nodes.now in
    let before : TruthTables = c.args.tables in
    let after : TruthTables = c.settle_from-tables.result in
    let old : List Rails = drop c.args.begin c.args.stack.now.items in
    let new : List Rails = drop c.args.begin c.settle_from-tables.new.stack.items in
    let alike : AreAlike before after old new = c.settle_from-tables.ensures.alike in
    let w : SymbolicSet = set_by_tables before s old in
    let y : Store = g.N.Nodes.store c.first_variable-var.new.nodes in
    let is : y ≡ s = c.first_variable-var.ensures.store in
    let t : Store = g.N.Nodes.store c.sum_at.new.nodes in
    let dt = g.met.N.Nodes.diagram c.sum_at.new.nodes in
    let call : Built (both_of (set_by_tables after s new)) (HasSetOrNot (set_by_tables after s new)) s t (Ok c.in_ok-r.field-0) = found_at s y t after new (Ok c.in_ok-r.field-0) is c.in_ok-r.ensures.built in
    let whole : Built (both_of w) (HasSetOrNot w) s t (Ok c.in_ok-r.field-0) = settled_found s t before after old new (Ok c.in_ok-r.field-0) ds alike c.requires.full call in
    lost (both_of w) (HasSetOrNot w) s t c.from_residual-in_err-put.result (first (both_of w) (HasSetOrNot w) s t (Ok c.in_ok-r.field-0) whole) c.from_residual-in_err-put.ensures.1

pub sum_of-returns-clause-met : goal.sum_of-returns-clause-met
sum_of-returns-clause-met g t0 c =
    let s : Store = g.N.Nodes.store c.args.nodes.now in
    let ds = g.met.N.Nodes.diagram c.args.nodes.now in
    let before : TruthTables = c.args.tables in
    let after : TruthTables = c.settle_from-tables.result in
    let old : List Rails = drop c.args.begin c.args.stack.now.items in
    let new : List Rails = drop c.args.begin c.settle_from-tables.new.stack.items in
    let alike : AreAlike before after old new = c.settle_from-tables.ensures.alike in
    let w : SymbolicSet = set_by_tables before s old in
    let refs : All (AreRefs s) new = alike.refs s ds c.requires.refs in
    let y : Store = g.N.Nodes.store c.first_variable-var.new.nodes in
    let is : y ≡ s = c.first_variable-var.ensures.store in
    let t : Store = g.N.Nodes.store c.sum_at.new.nodes in
    let dt = g.met.N.Nodes.diagram c.sum_at.new.nodes in
    let call : Built (both_of (set_by_tables after s new)) (HasSetOrNot (set_by_tables after s new)) s t (Ok c.in_ok-r.field-0) = found_at s y t after new (Ok c.in_ok-r.field-0) is c.in_ok-r.ensures.built in
    let whole : Built (both_of w) (HasSetOrNot w) s t (Ok c.in_ok-r.field-0) = settled_found s t before after old new (Ok c.in_ok-r.field-0) ds alike c.requires.full call in
    let shown : c.operands_from-5.result.now ≡ new = c.operands_from-5.ensures ∙ ap (λ (rs : List Rails). drop c.args.begin rs) c.in_ok-r.ensures.same in
    met_put s t after old new c.operands_from-5.result.now c.sum_at.new.met c.put.new.self c.in_ok-r.field-0 c.in-Some-2.r ds dt shown alike.long c.in_ok-r.ensures.met refs c.in-Some-2.is call (c.in_ok-put.ensures t)

pub sum_of-returns-clause-built : goal.sum_of-returns-clause-built
sum_of-returns-clause-built g t0 c =
    let s : Store = g.N.Nodes.store c.args.nodes.now in
    let ds = g.met.N.Nodes.diagram c.args.nodes.now in
    let before : TruthTables = c.args.tables in
    let after : TruthTables = c.settle_from-tables.result in
    let old : List Rails = drop c.args.begin c.args.stack.now.items in
    let new : List Rails = drop c.args.begin c.settle_from-tables.new.stack.items in
    let alike : AreAlike before after old new = c.settle_from-tables.ensures.alike in
    let w : SymbolicSet = set_by_tables before s old in
    let y : Store = g.N.Nodes.store c.first_variable-var.new.nodes in
    let is : y ≡ s = c.first_variable-var.ensures.store in
    let t : Store = g.N.Nodes.store c.sum_at.new.nodes in
    let dt = g.met.N.Nodes.diagram c.sum_at.new.nodes in
    let call : Built (both_of (set_by_tables after s new)) (HasSetOrNot (set_by_tables after s new)) s t (Ok c.in_ok-r.field-0) = found_at s y t after new (Ok c.in_ok-r.field-0) is c.in_ok-r.ensures.built in
    let whole : Built (both_of w) (HasSetOrNot w) s t (Ok c.in_ok-r.field-0) = settled_found s t before after old new (Ok c.in_ok-r.field-0) ds alike c.requires.full call in
    subst (λ (r : Option Rails). Built (both_of w) (HasSetOrNot w) s t (Ok r)) c.in-Some-2.is whole
