use Rattle.std.proofs.Common.{◌≡◌, ◌<◌, ℕ, zero, suc, List, [], ◌∷◌, length, set, get_or, refl, ap, sym, subst, inl, arith}
use Rattle.gste_engine.specs.declared.state.State.{State}
use Rattle.gste_engine.proofs.rounds.with_given.Goals as goal

-- to set an item to what it is changes nothing
set_own : {X : Type 0} (xs : List X) (k : ℕ) (x : X) → k < length xs → get_or xs k x ≡ x → xs ≡ set xs k x
set_own [] k x l e = refl
set_own (y ∷ xs) zero x l e = ap (λ z. z ∷ xs) e
set_own (y ∷ xs) (suc k) x l e = ap (λ zs. y ∷ zs) (set_own xs k x (omega (arith, l)) e)

pub returns-then-same_state : goal.returns-then-same_state
returns-then-same_state c =
    let givens : List State = c.args.edge_results.givens.items in
    let same : c.index.result.now ≡ c.args.given = c.same_state.ensures.0 c.if-same_state.true in
    let own : get_or givens c.args.k c.args.given ≡ c.args.given =
    subst (λ (x : State). get_or givens c.args.k x ≡ x) same (sym c.index.ensures) in
    record {
      givens = set_own givens c.args.k c.args.given c.requires.known own;
      seen = refl;
      waiting = c.requires.waiting;
      flags = refl;
      others = λ v h. h;
      moved = inl refl;
      frame = refl;
    }
