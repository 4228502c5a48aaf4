-- Latch outputs have their sets, one after another.
use Rattle.std.proofs.Common.{◌≡◌, ◌≢◌, ℕ, ◌<◌, ◌+◌, zero, suc, Bool, false, List, [], ◌∷◌, length, get_or, set, arith, sym, ap, subst, ◌∙◌, inl, inr}
use Rattle.std.specs.Prelude.{◌↔◌}
use Rattle.std.specs.List.{AllZip}
use Rattle.std.proofs.lemmas.List.{get_or-set_same, get_or-set_other, get_or_default}
use Rattle.std.proofs.lemmas.Bool.{cases_eq, cases_lt}
use Rattle.net_core.specs.declared.bit_set.BitSet.{BitSet}
use Rattle.net_core.specs.declared.raw.Latch.{Latch}
use Rattle.net_core.specs.declared.raw.RawNet.{RawNet}
use Rattle.net_core.specs.Flat.{HasOneDriver}
use Rattle.net_core.specs.Sets.{IsIn, both}
use Rattle.net_core.specs.Possible.{Asked, ArePossible}
use Rattle.net_core.proofs.Possible.{same_set}
use Rattle.plain_check.specs.private.Sets.{set_at, Allows, AreFlags, NoGate, AreLatched}

-- each latch may give the bit, where only those that drive the net have to
pub by_index : (id : ℕ) (bit : Bool) (latches : List Latch) (held : List BitSet) → length held ≡ length latches → ((k : ℕ) → k < length latches → (l : Latch) → (get_or latches k l).output.0 ≡ id → IsIn bit (set_at held k)) → AllZip (λ latch set. latch.output.0 ≡ id → IsIn bit set) latches held
by_index id bit [] [] e each = tt
by_index id bit [] (y ∷ held) e each = absurd (omega arith)
by_index id bit (x ∷ latches) [] e each = absurd (omega arith)
by_index id bit (x ∷ latches) (y ∷ held) e each = (each 0 (omega arith) x, by_index id bit latches held (omega arith) (λ k l. each (suc k) (omega arith)))

may_at : (id : ℕ) (bit : Bool) (latches : List Latch) (held : List BitSet) (n : ℕ) (d : Latch) → AllZip (λ latch set. latch.output.0 ≡ id → IsIn bit set) latches held → n < length latches → (get_or latches n d).output.0 ≡ id → IsIn bit (set_at held n)
may_at id bit [] held n d all l = absurd (omega arith)
may_at id bit (x ∷ latches) [] n d all l = absurd all
may_at id bit (x ∷ latches) (y ∷ held) zero d all l = all.0
may_at id bit (x ∷ latches) (y ∷ held) (suc n) d all l = may_at id bit latches held n d all.1 (omega arith)

-- a net that nothing drives may have what is allowed
pub undriven : (net : RawNet) (held : List BitSet) (asked : Asked) (allowed : List BitSet) (family : ℕ → BitSet) (id : ℕ) → length held ≡ length net.latches → length allowed ≡ net.nets → Allows asked.cuts allowed → ArePossible net held asked family → id < net.nets → NoGate net id → ((k : ℕ) (d : Latch) → k < length net.latches → (get_or net.latches k d).output.0 ≢ id) → set_at allowed id ≡ family id
undriven net held asked allowed family id long wide allows possible l no_gate no_latch =
    same_set (set_at allowed id) (family id)
    (λ bit h. (possible.each id bit).1 (record {
      source = λ off. record {
        by_gate = λ k d m e. absurd (no_gate k d m e);
        by_latch = by_index id bit net.latches held long (λ k m d e. absurd (no_latch k d m e));
      };
      left = (allows id bit (omega arith)).0 h;
    }))
    (λ bit h. (allows id bit (omega arith)).1 ((possible.each id bit).0 h).left)

-- What a latch output is given, its latch's set or both bits where it is weakened, as far as it is
-- allowed.
pub record IsPlaced (id : ℕ) (held given allowed found : BitSet) (weak : List Bool) : Type 0 where
  pub gives : (bit : Bool) → IsIn bit given ↔ (get_or weak id false ≡ false → IsIn bit held)
  pub meets : (bit : Bool) → IsIn bit found ↔ (IsIn bit given × IsIn bit allowed)

module _ (net : RawNet) (held : List BitSet) (asked : Asked) (weak : List Bool) (allowed : List BitSet)
    (family : ℕ → BitSet) (one : HasOneDriver net) (long : length held ≡ length net.latches)
    (wide : length allowed ≡ net.nets) (allows : Allows asked.cuts allowed)
    (flags : AreFlags net.nets asked.weak weak) (possible : ArePossible net held asked family) where
  -- a latch output may have what its latch holds, unless it is weakened, where that is allowed
  latched : (n : ℕ) (latch : Latch) (a b given found : BitSet)
      → latch.output.0 < net.nets → n < length net.latches → latch ≡ get_or net.latches n latch
      → IsPlaced latch.output.0 (get_or held n a) given (get_or allowed latch.output.0 b) found weak
      → found ≡ family latch.output.0
  latched n latch a b given found inside l is placed =
      let id = latch.output.0 in
      let first : get_or held n a ≡ set_at held n = get_or_default held n a both (omega arith) in
      let second : get_or allowed id b ≡ set_at allowed id = get_or_default allowed id b both (omega arith) in
      let off_flag = flags id inside in
      same_set found (family id)
      (λ bit h. let parts = (placed.meets bit).0 h in (possible.each id bit).1 (record {
        source = λ off.
            let here : IsIn bit (set_at held n) =
            subst (IsIn bit) first ((placed.gives bit).0 parts.0 (off_flag ∙ off)) in
            record {
              by_gate = λ k d m e. absurd (one.apart n latch l k d m (e ∙ ap (λ (x : Latch). x.output.0) is));
              by_latch = by_index id bit net.latches held long (λ k m d e. elim (cases_lt n k) [
                | inl less ↦ absurd (one.latches n k latch less m (sym (ap (λ (x : Latch). x.output.0) is) ∙ sym (ap (λ (x : Latch). x.output.0) (get_or_default net.latches k latch d m) ∙ e)))
                | inr more ↦ elim (cases_lt k n) [
                  | inl less ↦ absurd (one.latches k n latch less l ((ap (λ (x : Latch). x.output.0) (get_or_default net.latches k latch d m) ∙ e) ∙ ap (λ (x : Latch). x.output.0) is))
                  | inr same ↦ let at : n ≡ k = omega arith in subst (λ (j : ℕ). IsIn bit (set_at held j)) at here
                ]
              ]);
            };
        left = (allows id bit (omega arith)).0 (subst (IsIn bit) second parts.1);
      }))
      (λ bit h. let may = (possible.each id bit).0 h in (placed.meets bit).1 (
        (placed.gives bit).1 (λ off.
            let source = may.source (sym off_flag ∙ off) in
            let drives = sym (ap (λ (x : Latch). x.output.0) is) in
            subst (IsIn bit) (sym first) (may_at id bit net.latches held n latch source.by_latch l drives)),
        subst (IsIn bit) (sym second) ((allows id bit (omega arith)).1 may.left),
      ))

  -- one latch more has its set
  pub latch_done : (n : ℕ) (latch : Latch) (a b given found : BitSet) (sets : List BitSet)
      → length sets ≡ net.nets → latch.output.0 < net.nets → n < length net.latches
      → latch ≡ get_or net.latches n latch
      → IsPlaced latch.output.0 (get_or held n a) given (get_or allowed latch.output.0 b) found weak
      → AreLatched net n family sets → AreLatched net (n + 1) family (set sets latch.output.0 found)
  latch_done n latch a b given found sets size inside l is placed before id m no_gate none =
      elim (cases_eq id latch.output.0) [
        | inl here ↦
            ap (λ (k : ℕ). get_or (set sets latch.output.0 found) k both) here ∙ get_or-set_same sets latch.output.0 found both (omega arith)
            ∙ latched n latch a b given found inside l is placed ∙ ap family (sym here)
        | inr other ↦
            get_or-set_other sets latch.output.0 id found both other ∙ before id m no_gate (λ k d h p same. elim (cases_lt n k) [
              | inl after ↦ none k d (omega arith) p same
              | inr at ↦ let e : k ≡ n = omega arith in
                  other (sym same ∙ (ap (λ (x : Latch). x.output.0) (get_or_default net.latches k d latch p) ∙ (ap (λ (i : ℕ). (get_or net.latches i latch).output.0) e ∙ sym (ap (λ (x : Latch). x.output.0) is))))
            ])
      ]

-- at first no latch has its set, and what nothing drives has what is allowed
pub latches_begin : (net : RawNet) (held : List BitSet) (asked : Asked) (allowed : List BitSet) (family : ℕ → BitSet) → length held ≡ length net.latches → length allowed ≡ net.nets → Allows asked.cuts allowed → ArePossible net held asked family → AreLatched net 0 family allowed
latches_begin net held asked allowed family long wide allows possible id l no_gate none =
    undriven net held asked allowed family id long wide allows possible l no_gate (λ k d m. none k d (omega arith) m)
