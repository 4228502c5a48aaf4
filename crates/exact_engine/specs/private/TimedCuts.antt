-- For private functions. What quintuples ask, by references, and where they are broken.
use Rattle.std.specs.Prelude.{◌≡◌, ◌<◌, ◌&&◌, nat_le, nat_lt, ℕ, Bool, List, [], ◌∷◌, ◌++◌, map, if◌then◌else◌}
use Rattle.std.specs.List.{AllZip}
use Rattle.bool_expr.specs.Value.{value_of}
use Rattle.ste_base.specs.Functions.{Function}
use Rattle.dd_nodes.specs.Stores.{IsRef, Means, Store}
use Rattle.net_core.specs.Work.{SymbolicCut, chain, conjunction, disjunction, whole}
use Rattle.ste_model.specs.declared.task.Quint.{Quint}
use Rattle.ste_model.specs.Expressions.{exclusive_disjunction}
use Rattle.exact_model.specs.ExactWork.{differs, is_broken}
use Rattle.exact_engine.specs.declared.timed_cut.TimedCut.{TimedCut}
use Rattle.exact_engine.specs.declared.results.Broken.{Broken}

-- the references have the functions of the quintuple
pub record IsTimedCut (s : Store) (quint : Quint) (timed_cut : TimedCut) : Type 0 where
  pub node : timed_cut.node ≡ quint.node
  pub from : timed_cut.from ≡ quint.from
  pub to : timed_cut.to ≡ quint.to
  pub guard : Means s (value_of quint.guard) timed_cut.guard
  pub value : Means s (value_of quint.value) timed_cut.value

-- the same of lists
abbrev pub AreTimedCuts : Store → List Quint → List TimedCut → Type 0
AreTimedCuts s quints timed_cuts = AllZip (IsTimedCut s) quints timed_cuts

-- what is asked is held, of one of so many nets
pub record IsTimedCutRef (s : Store) (nets : ℕ) (timed_cut : TimedCut) : Type 0 where
  pub node : timed_cut.node.0 < nets
  pub guard : IsRef s timed_cut.guard
  pub value : IsRef s timed_cut.value

-- t is a time of the quintuple
abbrev pub runs_at : ℕ → TimedCut → Bool
runs_at t timed_cut = nat_le timed_cut.from t && nat_lt t timed_cut.to

-- g & (b ^ x)
abbrev pub broken : Function → Function → Function → Function
broken b g x = conjunction g (exclusive_disjunction b x)

-- the functions for it, and for its sum with f
abbrev pub broken_work : Function → Function → Function → Function → List Function
broken_work f b g x = exclusive_disjunction b x ∷ broken b g x ∷ disjunction f (broken b g x) ∷ []

-- a function where a test says so
abbrev pub only_if : Bool → Function → List Function
only_if test f = if test then f ∷ [] else []

-- the functions for a quintuple that is added where it has the time
abbrev pub timed_cut_work : Bool → Function → Function → Function → Function → List Function
timed_cut_work test f b g x = if test then broken_work f b g x else []

-- where cuts are broken
abbrev pub broken_at : (ℕ → Function) → List SymbolicCut → List Function
broken_at bit cuts = map (is_broken bit) cuts

-- the functions for cuts that are added to a sum
abbrev pub cuts_added : Function → (ℕ → Function) → List SymbolicCut → List Function
cuts_added f bit cuts =
    chain disjunction f (broken_at bit cuts) ++ (broken_at bit cuts ++ map (differs bit) cuts)

-- the functions for the cuts of both sides
abbrev pub both_added : Function → Function → (ℕ → Function) → List SymbolicCut → List SymbolicCut →
    List Function
both_added f h bit one two = cuts_added f bit one ++ cuts_added h bit two

-- the references have both sums
pub record AreBothAdded (f h : Function) (bit : ℕ → Function) (one two : List SymbolicCut)
    (s : Store) (sums : Broken) : Type 0 where
  pub ant : Means s (whole disjunction f (broken_at bit one)) sums.ant
  pub con : Means s (whole disjunction h (broken_at bit two)) sums.con
