-- A row of bits, with one for each of some nodes, written node by node.
use Rattle.std.proofs.Common.{ℕ, zero, suc, ◌+◌, ◌<◌, ◌≡◌, ◌≢◌, refl, ap, sym, ◌∙◌, List, [], ◌∷◌, length, get_or, take, set, replicate, Bool, false, arith, add-one, get_or-set_same, get_or-set_other, inl, inr}
use Rattle.std.specs.Prelude.{AllPairs, nat_eq, if◌then◌else◌}
use Rattle.std.proofs.Common.{eq-eqb, ne_eqb}
use Rattle.std.proofs.lemmas.Bool.{cases_eq}
use Rattle.ste_base.specs.declared.id.NodeId.{NodeId}
use Rattle.clock_step.specs.Simulation.{bit_in}
use Rattle.clock_step.specs.Determined.{bit_at}

-- the bit of the node at place k, where it is none of those before
bit_here : (nodes : List NodeId) (row : List Bool) (k : ℕ) (d : NodeId) (e : Bool) → k < length nodes → k < length row → ((j : ℕ) → j < k → (get_or nodes j d).0 ≢ (get_or nodes k d).0) → bit_in (take (suc k) nodes) row (get_or nodes k d).0 ≡ get_or row k e
bit_here [] row k d e l m apart = absurd (omega arith)
bit_here (node ∷ nodes) [] k d e l m apart = absurd (omega arith)
bit_here (node ∷ nodes) (bit ∷ row) zero d e l m apart = rw (eq-eqb node.0 node.0 refl) refl
bit_here (node ∷ nodes) (bit ∷ row) (suc k) d e l m apart =
    let other = ne_eqb node.0 (get_or nodes k d).0 (apart 0 (omega arith)) in
    rw other (bit_here nodes row k d e (omega arith) (omega arith) (λ j less. apart (suc j) (omega arith)))

-- the bit of any other net
bit_there : (nodes : List NodeId) (row : List Bool) (k : ℕ) (d : NodeId) (id : ℕ) → k < length nodes → (get_or nodes k d).0 ≢ id → bit_in (take (suc k) nodes) row id ≡ bit_in (take k nodes) row id
bit_there [] row k d id l other = absurd (omega arith)
bit_there (node ∷ nodes) [] zero d id l other = refl
bit_there (node ∷ nodes) [] (suc k) d id l other = refl
bit_there (node ∷ nodes) (bit ∷ row) zero d id l other = rw (ne_eqb node.0 id other) refl
bit_there (node ∷ nodes) (bit ∷ row) (suc k) d id l other = ap (λ (b : Bool). if nat_eq node.0 id then bit else b) (bit_there nodes row k d id (omega arith) other)

-- one turn of the loop
pub next_placed : (nodes : List NodeId) (row bits : List Bool) (k : ℕ) (node : NodeId) (b : Bool) → AllPairs (λ one other. one.0 ≢ other.0) nodes → length row ≡ length nodes → k < length nodes → node ≡ get_or nodes k node → node.0 < length bits → b ≡ get_or row k b → ((id : ℕ) → bit_at bits id ≡ bit_in (take k nodes) row id) → (id : ℕ) → bit_at (set bits node.0 b) id ≡ bit_in (take (k + 1) nodes) row id
next_placed nodes row bits k node b apart long l is within here before id =
    let more : take (k + 1) nodes ≡ take (suc k) nodes = ap (λ n. take n nodes) (add-one k) in
    elim (cases_eq id node.0) [
      | inl same ↦
          ap (λ n. get_or (set bits node.0 b) n false) same ∙ get_or-set_same bits node.0 b false within ∙ here
          ∙ sym (bit_here nodes row k node b l (omega arith) (λ j less. apart j k node less l))
          ∙ ap (λ (n : NodeId). bit_in (take (suc k) nodes) row n.0) (sym is) ∙ ap (λ n. bit_in (take (suc k) nodes) row n) (sym same) ∙ ap (λ ns. bit_in ns row id) (sym more)
      | inr other ↦
          get_or-set_other bits node.0 id b false other ∙ before id
          ∙ sym (bit_there nodes row k node id l (λ e. other (sym e ∙ ap (λ (n : NodeId). n.0) (sym is)))) ∙ ap (λ ns. bit_in ns row id) (sym more)
    ]

-- a row of zeros gives each net 0
pub all_zero : (n id : ℕ) → bit_at (replicate n false) id ≡ false
all_zero zero id = refl
all_zero (suc n) zero = refl
all_zero (suc n) (suc id) = all_zero n id
