-- Steps at later times, one quintuple after the other; and the last step with one more.
use Rattle.std.proofs.Common.{ℕ, ◌+◌, ◌<◌, ◌≡◌, refl, ap, sym, ◌∙◌, List, [], ◌∷◌, ◌++◌, map, length, get_or, drop, Bool, true, false, Result, Ok, Err, append_assoc}
use Rattle.std.proofs.lemmas.List.{drop_more}
use Rattle.bool_expr.specs.declared.expr.Expr.{Expr}
use Rattle.bool_expr.specs.Tree.{tree_of}
use Rattle.ste_model.specs.declared.task.Quint.{Quint}
use Rattle.ste_model.specs.Trees.{QuintTree, quint_tree}
use Rattle.rule_model.specs.Claims.{Claim}
use Rattle.rule_model.specs.Rules.{later_by}
use Rattle.ste_rules.specs.declared.form.Growth.{Growth}
use Rattle.ste_rules.specs.declared.step.Step.{Step}
use Rattle.ste_rules.specs.Sizes.{claim_fits}
use Rattle.ste_rules.specs.Steps.{StepFault, and_then, grown_claim, last_grown, later_claim, many, unless}
use Rattle.ste_rules.specs.private.Held.{step_claim}

pub later_made : (number : ℕ) (quint : Quint) (guard value : Expr) (from to : ℕ) → tree_of guard ≡ tree_of quint.guard → tree_of value ≡ tree_of quint.value → from ≡ quint.from + number → to ≡ quint.to + number → quint_tree (record { guard = guard; node = quint.node; value = value; from = from; to = to }) ≡ later_by number (quint_tree quint)
later_made number quint guard value from to g v f t = rw g (rw v (rw f (rw t refl)))

more_mapped : {X Y : Type 0} (h : X → Y) (xs : List X) (x : X) → map h (xs ++ x ∷ []) ≡ map h xs ++ h x ∷ []
more_mapped h [] x = refl
more_mapped h (y ∷ xs) x = ap (λ ys. h y ∷ ys) (more_mapped h xs x)

pub later_turn : (number : ℕ) (quints : List Quint) (i : ℕ) (quint later : Quint) (made new : List Quint) → i < length quints → quint ≡ get_or quints i quint → quint_tree later ≡ later_by number (quint_tree quint) → new ≡ made ++ later ∷ [] → map quint_tree made ++ map (later_by number) (map quint_tree (drop i quints)) ≡ map (later_by number) (map quint_tree quints) → map quint_tree new ++ map (later_by number) (map quint_tree (drop (i + 1) quints)) ≡ map (later_by number) (map quint_tree quints)
later_turn number quints i quint later made new h g is e inv =
    let at = drop_more quints i quint h ∙ ap (λ q. q ∷ drop (i + 1) quints) (sym g) in
    ap (λ qs. map quint_tree qs ++ map (later_by number) (map quint_tree (drop (i + 1) quints))) e
    ∙ ap (λ qs. qs ++ map (later_by number) (map quint_tree (drop (i + 1) quints))) (more_mapped quint_tree made later)
    ∙ append_assoc (map quint_tree made) (quint_tree later ∷ []) (map (later_by number) (map quint_tree (drop (i + 1) quints)))
    ∙ ap (λ q. map quint_tree made ++ q ∷ map (later_by number) (map quint_tree (drop (i + 1) quints))) is
    ∙ sym (ap (λ qs. map quint_tree made ++ map (later_by number) (map quint_tree qs)) at) ∙ inv

pub two_later : (number : ℕ) (step : Step) (ant con : List Quint) → map quint_tree ant ≡ map (later_by number) (map quint_tree step.ant) → map quint_tree con ≡ map (later_by number) (map quint_tree step.con) → step_claim (record { reset = step.reset; ant = ant; con = con }) ≡ later_claim number (step_claim step)
two_later number step ant con a b = rw a (rw b refl)

-- the last of some claims grows
with_test : (b : Bool) (k : Claim) (ks : List Claim) (x : Claim) → and_then (and_then (unless many b) (λ _. Ok (ks ++ k ∷ []))) (λ grown. Ok (x ∷ grown)) ≡ and_then (unless many b) (λ _. Ok (x ∷ (ks ++ k ∷ [])))
with_test true k ks x = refl
with_test false k ks x = refl

one_before : (r : Result Claim StepFault) (ks : List Claim) (x : Claim) → and_then (and_then r (λ g. and_then (unless many (claim_fits g)) (λ _. Ok (ks ++ g ∷ [])))) (λ grown. Ok (x ∷ grown)) ≡ and_then r (λ g. and_then (unless many (claim_fits g)) (λ _. Ok (x ∷ (ks ++ g ∷ []))))
one_before (Ok g) ks x = with_test (claim_fits g) g ks x
one_before (Err fault) ks x = refl

pub last_is : (growth : Growth) (quint : QuintTree) (ks : List Claim) (k : Claim) → last_grown growth quint (ks ++ k ∷ []) ≡ and_then (grown_claim growth quint k) (λ g. and_then (unless many (claim_fits g)) (λ _. Ok (ks ++ g ∷ [])))
last_is growth quint [] k = refl
last_is growth quint (x ∷ []) k = ap (λ r. and_then r (λ grown. Ok (x ∷ grown))) (last_is growth quint [] k) ∙ one_before (grown_claim growth quint k) [] x
last_is growth quint (x ∷ y ∷ ks) k = ap (λ r. and_then r (λ grown. Ok (x ∷ grown))) (last_is growth quint (y ∷ ks) k) ∙ one_before (grown_claim growth quint k) (y ∷ ks) x

-- the same of steps as the code holds them
pub last_held : (growth : Growth) (quint : QuintTree) (all before : List Step) (step : Step) → all ≡ before ++ step ∷ [] → last_grown growth quint (map step_claim all) ≡ and_then (grown_claim growth quint (step_claim step)) (λ g. and_then (unless many (claim_fits g)) (λ _. Ok (map step_claim before ++ g ∷ [])))
last_held growth quint all before step e = ap (λ steps. last_grown growth quint (map step_claim steps)) e ∙ ap (last_grown growth quint) (more_mapped step_claim before step) ∙ last_is growth quint (map step_claim before) (step_claim step)

pub held_more : (all before : List Step) (step : Step) → all ≡ before ++ step ∷ [] → map step_claim before ++ step_claim step ∷ [] ≡ map step_claim all
held_more all before step e = sym (ap (map step_claim) e ∙ more_mapped step_claim before step)
