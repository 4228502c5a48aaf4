-- Expressions, part by part.
use Rattle.std.proofs.Common.{◌≡◌, ℕ, zero, suc, ◌+◌, ◌<◌, Bool, true, false, List, [], ◌∷◌, ◌++◌, length, take, get_or, map, refl, sym, ◌∙◌, ap, subst, arith, Contains, Result, Ok}
use Rattle.std.specs.Prelude.{IsTrue}
use Rattle.std.specs.List.{list_all}
use Rattle.std.proofs.lemmas.Bool.{and_parts}
use Rattle.std.proofs.lemmas.List.Elements.{Contains-append_left, Contains-append_right}
use Rattle.bool_expr.specs.declared.expr.Expr.{Expr}
use Rattle.bool_expr.specs.Value.{flips, value_of}
use Rattle.dd_nodes.specs.declared.node.Ref.{Ref}
use Rattle.ste_base.specs.Functions.{Function}
use Rattle.dd_nodes.specs.Stores.{Store, Means, function}
use Rattle.dd_nodes.proofs.Stores.{IsGood, Means-keeps}
use Rattle.dd_ops.specs.declared.fault.OpFault.{OpFault}
use Rattle.dd_ops.specs.Answer.{Answer, xor_bit}
use Rattle.net_core.specs.Work.{chain, never, whole}
use Rattle.ste_model.specs.Expressions.{all_work, exclusive_disjunction, reads, symbolic_value}
use Rattle.ste_model.proofs.Values.{functions_are_values, values_of}
use Rattle.dual_rail.specs.Rail.{Built, HasFunction}
use Rattle.dual_rail.specs.Calls.{Reached}
use Rattle.dual_rail.proofs.Works.{Within, Built-answer, Built-wider, last, more}
use Rattle.dual_rail.proofs.Chains.{chain-has, whole-next}

xor_flips : (a b : Bool) → xor_bit a b ≡ flips a b
xor_flips true true = refl
xor_flips true false = refl
xor_flips false true = refl
xor_flips false false = refl

pub xor_built : (work : List Function) (f g : Function) (s t : Store) (a b : Ref) (result : Result Ref OpFault) → Contains work (exclusive_disjunction f g) → Means s f a → Means s g b
    → Answer (λ bits. xor_bit (function s a bits) (function s b bits)) s t result → Built work (HasFunction (exclusive_disjunction f g)) s t result
xor_built work f g s t a b result has ma mb x =
    Built-answer work (λ bits. xor_bit (function s a bits) (function s b bits)) (exclusive_disjunction f g) s t result has
    (λ bits l. ap (λ x. xor_bit x (function s b bits)) (ma.value bits l) ∙ ap (λ x. xor_bit (f bits) x) (mb.value bits l) ∙ xor_flips (f bits) (g bits)) x

pub parts_has : (es : List Expr) (k : ℕ) (e : Expr) → k < length es → Within (symbolic_value (get_or es k e)).work (all_work (map symbolic_value es))
parts_has [] k e lt = absurd (omega arith)
parts_has (x ∷ xs) zero e lt = λ f h. Contains-append_left (symbolic_value x).work (all_work (map symbolic_value xs)) f h
parts_has (x ∷ xs) (suc k) e lt = λ f h. Contains-append_right (symbolic_value x).work (all_work (map symbolic_value xs)) f (parts_has xs k e (omega arith) f h)

pub value_at : (es : List Expr) (k : ℕ) (e : Expr) (d : Function) → k < length es → get_or (values_of es) k d ≡ (symbolic_value (get_or es k e)).value
value_at [] k e d lt = absurd (omega arith)
value_at (x ∷ xs) zero e d lt = refl
value_at (x ∷ xs) (suc k) e d lt = value_at xs k e d (omega arith)

pub values_long : (es : List Expr) → length (values_of es) ≡ length es
values_long [] = refl
values_long (x ∷ xs) = ap suc (values_long xs)

pub part_reads : (vars : ℕ) (es : List Expr) (k : ℕ) (e : Expr) → k < length es → IsTrue (list_all (λ b. b) (map (reads vars) es)) → IsTrue (reads vars (get_or es k e))
part_reads vars [] k e lt h = absurd (omega arith)
part_reads vars (x ∷ xs) zero e lt h = (and_parts (reads vars x) (list_all (λ b. b) (map (reads vars) xs)) h).0
part_reads vars (x ∷ xs) (suc k) e lt h = part_reads vars xs k e (omega arith) (and_parts (reads vars x) (list_all (λ b. b) (map (reads vars) xs)) h).1

module _ (join : Function → Function → Function) (start : Function) (es : List Expr) where
  abbrev pub joined_work : List Function
  joined_work = chain join start (values_of es) ++ whole join start (values_of es) ∷ []

  abbrev pub work_of : List Function
  work_of = all_work (map symbolic_value es) ++ joined_work

  abbrev pub so_far : ℕ → Function
  so_far k = whole join start (take k (values_of es))

  part_within : (k : ℕ) (part : Expr) → k < length es → part ≡ get_or es k part → Within (symbolic_value part).work work_of
  part_within k part lt is f h = Contains-append_left (all_work (map symbolic_value es)) joined_work f (parts_has es k part lt f (subst (λ (e : Expr). Contains (symbolic_value e).work f) is h))

  -- one more part is built
  pub part_built : (s t u : Store) (k : ℕ) (part : Expr) (all : Ref) (result : Result Ref OpFault) → IsGood t → IsGood u → k < length es → part ≡ get_or es k part
      → Reached work_of (so_far k) s t all → Built (symbolic_value part).work (HasFunction (symbolic_value part).value) t u result → Built work_of (HasFunction (symbolic_value part).value) s u result
  part_built s t u k part all result gt gu lt is p b = last work_of (HasFunction (symbolic_value part).value) s t u result gt gu p.so (Built-wider work_of (symbolic_value part).work (HasFunction (symbolic_value part).value) t u result (part_within k part lt is) b)

  -- and joined with those before
  pub part_turn : (s t u v : Store) (k : ℕ) (part : Expr) (all r : Ref) (result : Result Ref OpFault) → IsGood t → IsGood u → IsGood v → k < length es → part ≡ get_or es k part
      → Reached work_of (so_far k) s t all → Built (symbolic_value part).work (HasFunction (symbolic_value part).value) t u (Ok r)
      → ((work : List Function) (f g : Function) → Contains work (join f g) → Means u f all → Means u g r → Built work (HasFunction (join f g)) u v result)
      → Built work_of (HasFunction (so_far (k + 1))) s v result
  part_turn s t u v k part all r result gt gu gv lt is p b call =
      let fs : List Function = values_of es in
      let n : length fs ≡ length es = values_long es in
      let f : Function = so_far k in
      let g : Function = (symbolic_value part).value in
      let same : get_or fs k never ≡ g = value_at es k part never lt ∙ ap (λ (e : Expr). (symbolic_value e).value) (sym is) in
      let has : Contains work_of (join f g) = Contains-append_right (all_work (map symbolic_value es)) joined_work (join f g) (Contains-append_left (chain join start fs) (whole join start fs ∷ []) (join f g) (subst (λ (x : Function). Contains (chain join start fs) (join f x)) same (chain-has join start fs k never (omega (arith, n))))) in
      subst (λ (x : Function). Built work_of (HasFunction x) s v result) (ap (join f) (sym same) ∙ sym (whole-next join start fs k never (omega (arith, n))))
      (last work_of (HasFunction (join f g)) s u v result gu gv (more work_of (HasFunction g) s t u (Ok r) gt gu p.so (Built-wider work_of (symbolic_value part).work (HasFunction g) t u (Ok r) (part_within k part lt is) b))
      (call work_of f g has (Means-keeps t u f all gt gu b.spends.keeps p.means) b.ok))

pub value_means : (t : Store) (e : Expr) (r : Ref) → Means t (symbolic_value e).value r → Means t (value_of e) r
value_means t e r m = record { ref = m.ref; value = λ bits l. m.value bits l ∙ functions_are_values e bits }
