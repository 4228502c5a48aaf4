-- Meaning, and a law. The rules by which claims are derived from others, and that they are sound.
-- Source: the inference rules of symbolic trajectory evaluation (Hazelhurst and Seger 1995); which
-- rules there are is a choice of this project.
use Rattle.std.specs.Prelude.{◌≡◌, ◌<◌, ◌≤◌, ◌⊎◌, ◌==◌, ◌||◌, ⊤, ◌∷◌, ◌++◌, [], ℕ, ◌+◌, false, List, map, Contains, Some, slice_get, if◌then◌else◌}
use Rattle.bool_expr.specs.Tree.{Tree, Trees, bit, place, opposite, under, none, more}
use Rattle.net_core.specs.declared.raw.RawNet.{RawNet}
use Rattle.net_core.specs.Flat.{HasOneDriver}
use Rattle.net_core.specs.Run.{IsSettled}
use Rattle.ste_model.specs.Trees.{QuintTree}
use Rattle.rule_model.specs.Claims.{Claim, ClaimHolds}

-- a tree with another one for a variable
abbrev mutual
  pub substitute : ℕ → Tree → Tree → Tree
  substitute x by (bit b) = bit b
  substitute x by (place n) = if n == x then by else place n
  substitute x by (opposite part) = opposite (substitute x by part)
  substitute x by (under s parts) = under s (substitute_all x by parts)

  pub substitute_all : ℕ → Tree → Trees → Trees
  substitute_all x by none = none
  substitute_all x by (more part parts) = more (substitute x by part) (substitute_all x by parts)

-- the same of the guard and the value of a quintuple
abbrev pub substitute_in : ℕ → Tree → QuintTree → QuintTree
substitute_in x by quint =
    record quint { guard = substitute x by quint.guard; value = substitute x by quint.value }

-- a quintuple with so much added to its times
abbrev pub later_by : ℕ → QuintTree → QuintTree
later_by n quint = record quint { from = quint.from + n; to = quint.to + n }

-- each variable of a tree is below n
abbrev mutual
  pub ReadsBelow : ℕ → Tree → Type 0
  ReadsBelow n (bit b) = ⊤
  ReadsBelow n (place k) = k < n
  ReadsBelow n (opposite part) = ReadsBelow n part
  ReadsBelow n (under s parts) = AllReadBelow n parts

  pub AllReadBelow : ℕ → Trees → Type 0
  AllReadBelow n none = ⊤
  AllReadBelow n (more part parts) = ReadsBelow n part × AllReadBelow n parts

-- each number is above the one before it
abbrev pub AreRising : List ℕ → Type 0
AreRising [] = ⊤
AreRising (one ∷ []) = ⊤
AreRising (one ∷ other ∷ numbers) = (one < other) × AreRising (other ∷ numbers)

-- A quintuple is covered by a list: it has no time, or one of the list says the same of at least
-- its times.
abbrev pub IsCoveredBy : List QuintTree → QuintTree → Type 0
IsCoveredBy others quint =
    (quint.from ≡ quint.to)
    ⊎ ((other : QuintTree) × Contains others other × (other.guard ≡ quint.guard)
    × (other.node ≡ quint.node) × (other.value ≡ quint.value)
    × (other.from ≤ quint.from) × (quint.to ≤ other.to))

-- each quintuple of a list is covered by others
abbrev pub AreCoveredBy : List QuintTree → List QuintTree → Type 0
AreCoveredBy others [] = ⊤
AreCoveredBy others (quint ∷ quints) = IsCoveredBy others quint × AreCoveredBy others quints

-- the quintuples of a list at these numbers, in their order
abbrev pub ArePicked : List QuintTree → List ℕ → List QuintTree → Type 0
ArePicked quints [] [] = ⊤
ArePicked quints [] (q ∷ picked) = ⊥
ArePicked quints (n ∷ numbers) [] = ⊥
ArePicked quints (n ∷ numbers) (q ∷ picked) =
    (slice_get quints n ≡ Some q) × ArePicked quints numbers picked

-- Derivable from a list of claims, over so many variables: one of them, or by one of seven rules
-- from derivable ones. A list of quintuples claims itself (`identity`); two claims go together
-- (`both`); a claim without `reset` holds at later times (`shift`), with an expression in place of a
-- variable everywhere at once (`specialise`), with a longer antecedent (`stronger`), and with some of
-- its consequents (`weaker`); and the antecedent of a claim has the consequent of another one whose
-- antecedent the first claim covers (`cut`).
pub data IsDerivable (vars : ℕ) (leaves : List Claim) : Claim → Type 0 where
  leaf : (k : Claim) → Contains leaves k → IsDerivable vars leaves k
  identity : (ant : List QuintTree) →
      IsDerivable vars leaves (record { reset = false; ant = ant; con = ant })
  both : (a b : Claim) → IsDerivable vars leaves a → IsDerivable vars leaves b →
      IsDerivable vars leaves (record
      { reset = a.reset || b.reset; ant = a.ant ++ b.ant; con = a.con ++ b.con })
  shift : (a : Claim) (n : ℕ) → a.reset ≡ false → IsDerivable vars leaves a →
      IsDerivable vars leaves (record
      { reset = a.reset; ant = map (later_by n) a.ant; con = map (later_by n) a.con })
  specialise : (a : Claim) (x : ℕ) (by : Tree) → x < vars → ReadsBelow vars by →
      IsDerivable vars leaves a →
      IsDerivable vars leaves (record {
        reset = a.reset;
        ant = map (substitute_in x by) a.ant;
        con = map (substitute_in x by) a.con;
      })
  stronger : (a : Claim) (more : List QuintTree) → IsDerivable vars leaves a →
      IsDerivable vars leaves (record { reset = a.reset; ant = a.ant ++ more; con = a.con })
  weaker : (a : Claim) (numbers : List ℕ) (con : List QuintTree) → AreRising numbers →
      ArePicked a.con numbers con → IsDerivable vars leaves a →
      IsDerivable vars leaves (record { reset = a.reset; ant = a.ant; con = con })
  cut : (a b : Claim) → AreCoveredBy (a.ant ++ a.con) b.ant → IsDerivable vars leaves a →
      IsDerivable vars leaves b →
      IsDerivable vars leaves (record { reset = a.reset || b.reset; ant = a.ant; con = b.con })

-- Law: in a sound net without loops, what is derived from claims that hold holds.
abbrev pub DerivedHolds : Type 0
DerivedHolds =
    (net : RawNet) → HasOneDriver net → IsSettled net → (vars : ℕ) (leaves : List Claim) →
    ((k : Claim) → Contains leaves k → ClaimHolds net vars k) → (k : Claim) →
    IsDerivable vars leaves k → ClaimHolds net vars k
