-- A diagram of one store, made in another node by node.
use Rattle.std.proofs.Common.{◌≡◌, ℕ, ◌+◌, ◌<◌, Bool, true, false, List, [], ◌∷◌, length, get_or, refl, sym, ◌∙◌, ap, subst, arith, Result, Some, cond}
use Rattle.std.specs.Prelude.{◌==◌}
use Rattle.std.specs.HashMap.{get}
use Rattle.std.proofs.lemmas.Bool.{eqb-true}
use Rattle.dd_nodes.specs.declared.node.Ref.{Ref}
use Rattle.dd_nodes.specs.declared.node.Node.{Node}
use Rattle.ste_base.specs.Functions.{Function}
use Rattle.dd_nodes.specs.Diagram.{IsCofactor, IsFrom, child, same_ref}
use Rattle.dd_nodes.specs.Stores.{Store, IsRef, Keeps, Means, function}
use Rattle.dd_nodes.proofs.Stores.{IsGood, Means-keeps}
use Rattle.dd_nodes.proofs.Walks.{child-high, child-low, from_constant, from_function, from_held, length-up_to, same_numbers, up_to, value-of_child, value-same_from, walk-constant}
use Rattle.dd_ops.specs.declared.fault.OpFault.{OpFault}
use Rattle.dd_ops.specs.Answer.{Answer}
use Rattle.dd_ops.specs.Splitting.{Splits, half}
use Rattle.dd_query.proofs.Room.{child_from, value_below}
use Rattle.dual_rail.specs.Rail.{Built, HasFunction}
use Rattle.dual_rail.proofs.Works.{SoFar, Built-answer, here, last}
use Rattle.gate_sets.proofs.Halving.{spends_below}
use Rattle.exact_engine.specs.private.Choosing.{Met}
use Rattle.exact_engine.specs.private.Copying.{AreCopied}

-- ---- constants, and what was copied

pub constant_copy : (source s : Store) (r : Ref) → IsGood source → IsGood s → r.0 < 2 → Means s (function source r) r
constant_copy source s r d ds c = record {
  ref = from_constant s.held 0 r c;
  value = λ bits l. let here_bit : function s r bits ≡ (r.0 == 1) = walk-constant s.held s.vars 0 r bits ds c in here_bit ∙ sym (walk-constant source.held source.vars 0 r bits d c);
}

pub copied_keep : (source s t : Store) (met : Met) → IsGood s → IsGood t → Keeps s t → AreCopied source s met → AreCopied source t met
copied_keep source s t met ds dt k are r x e = let p = are r x e in (p.0, Means-keeps s t (function source r) x ds dt k p.1)

pub copied_more : (source s : Store) (met new : Met) (r made : Ref) → IsRef source r → Means s (function source r) made → ((p : Ref) → get same_ref new p ≡ cond (same_ref r p) (Some made) (get same_ref met p)) → AreCopied source s met → AreCopied source s new
copied_more source s met new r made held means updates are p x e = by (same_ref r p) refl (sym (updates p) ∙ e)
  where
    by : (b : Bool) → same_ref r p ≡ b → cond b (Some made) (get same_ref met p) ≡ Some x → IsRef source p × Means s (function source p) x
    by true same h =
        let one : r ≡ p = same_numbers r p (eqb-true r.0 p.0 same) in
        let is : made ≡ x = cc h in
        subst (λ (q : Ref). IsRef source q × Means s (function source q) x) one (held, subst (λ (q : Ref). Means s (function source r) q) is means)
    by false same h = are p x h

-- ---- halves

module _ (source : Store) (d : IsGood source) (r : Ref) (n : Node) (at : source.held r ≡ Some n) where
  abbrev pub whole_of : Function
  whole_of = function source r

  abbrev pub child_at : Bool → Ref
  child_at b = half n.lo n.hi b

  abbrev pub part_of : Bool → Function
  part_of b = function source (child_at b)

  child_own : (b : Bool) → child source.held n.var b r ≡ child_at b
  child_own true = child-high source.held n.var r n at refl
  child_own false = child-low source.held n.var r n at refl

  part_cofactor : (b : Bool) → IsCofactor source.vars whole_of (part_of b)
  part_cofactor b =
      let long : length (up_to n.var b) ≡ n.var + 1 = length-up_to n.var b in
      let inside : n.var < source.vars = d.below r n at in (
        up_to n.var b,
        omega (arith, long, inside),
        λ bits l. ap (λ (c : Ref). function source c bits) (sym (child_own b)) ∙ value-of_child source.held source.vars n.var b r bits d (from_held source.held n.var r n at (omega arith)) (omega (arith, l, inside)),
      )

  module _ (s : Store) (same_vars : source.vars ≡ s.vars) where
    -- the call for one half is a part of the whole
    pub half_turn : (b : Bool) (now t u : Store) (result : Result Ref OpFault) → now ≡ source → IsGood t → IsGood u → SoFar (whole_of ∷ []) s t
        → Built (function now (child_at b) ∷ []) (HasFunction (function now (child_at b))) t u result → Built (whole_of ∷ []) (HasFunction (part_of b)) s u result
    half_turn b now t u result same dt du so made =
        let m : Built (part_of b ∷ []) (HasFunction (part_of b)) t u result = subst (λ (x : Store). Built (function x (child_at b) ∷ []) (HasFunction (function x (child_at b))) t u result) same made in
        let cofactor : IsCofactor t.vars whole_of (part_of b) = subst (λ (k : ℕ). IsCofactor k whole_of (part_of b)) (same_vars ∙ sym so.keeps.vars) (part_cofactor b) in
        last (whole_of ∷ []) (HasFunction (part_of b)) s t u result dt du so (record { ok = m.ok; spends = spends_below whole_of (part_of b) t u _ cofactor m.spends })

    -- both results split the whole in a later store
    pub part_from : (b : Bool) (u : Store) (x : Ref) → IsGood u → Keeps s u → Means u (part_of b) x → IsFrom u.held (n.var + 1) x
    part_from b u x du k m =
        let inside : n.var < source.vars = d.below r n at in
        let vars : u.vars ≡ s.vars = k.vars in
        from_function u.held u.vars (n.var + 1) 0 (n.var + 1) x du (omega arith) (omega (arith, inside, vars, same_vars)) m.ref
        (λ bits other l h same. m.value bits l ∙ value-same_from source.held source.vars (n.var + 1) (child_at b) bits other d (child_from source n r d at b) (omega (arith, inside, vars, same_vars, l)) (omega (arith, inside, vars, same_vars, h)) same ∙ sym (m.value other h))

    pub split_turn : (u : Store) (lo hi : Ref) → IsGood u → Keeps s u → Means u (part_of false) lo → Means u (part_of true) hi → Splits u n.var lo hi whole_of
    split_turn u lo hi du k ml mh = record {
      inside = let inside : n.var < source.vars = d.below r n at in let vars : u.vars ≡ s.vars = k.vars in omega (arith, inside, vars, same_vars);
      low = part_from false u lo du k ml;
      high = part_from true u hi du k mh;
      halves = λ bits l. by bits l (get_or bits n.var false) refl;
    }
      where
        wide : (bits : List Bool) → length bits ≡ u.vars → length bits ≡ source.vars
        wide bits l = l ∙ k.vars ∙ sym same_vars

        by : (bits : List Bool) → length bits ≡ u.vars → (b : Bool) → get_or bits n.var false ≡ b → whole_of bits ≡ function u (half lo hi (get_or bits n.var false)) bits
        by bits l true e = sym (value_below source n r bits true d at (wide bits l) e) ∙ sym (mh.value bits l) ∙ ap (λ (c : Bool). function u (half lo hi c) bits) (sym e)
        by bits l false e = sym (value_below source n r bits false d at (wide bits l) e) ∙ sym (ml.value bits l) ∙ ap (λ (c : Bool). function u (half lo hi c) bits) (sym e)

    pub made_turn : (u w : Store) (lo hi : Ref) (result : Result Ref OpFault) → IsGood u → IsGood w → SoFar (whole_of ∷ []) s u → Means u (part_of false) lo → Means u (part_of true) hi
        → ((f : Function) → Splits u n.var lo hi f → Answer f u w result) → Built (whole_of ∷ []) (HasFunction whole_of) s w result
    made_turn u w lo hi result du dw so ml mh call =
        last (whole_of ∷ []) (HasFunction whole_of) s u w result du dw so
        (Built-answer (whole_of ∷ []) whole_of whole_of u w result (here whole_of []) (λ bits l. refl) (call whole_of (split_turn u lo hi du so.keeps ml mh)))
