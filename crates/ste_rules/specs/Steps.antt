-- Meaning. The steps that lines give, one after the other, and what is wrong with a line.
use Rattle.std.specs.Prelude.{ℕ, ◌++◌, ◌∷◌, [], List, length, map, Bool, true, false, not, Option, None, Some, Result, Ok, Err, ◌&&◌, ◌||◌, if◌then◌else◌, nat_lt, bytes_eq, slice_get, option_and_then, position}
use Rattle.std.specs.List.{list_all, list_any}
use Rattle.bool_expr.specs.Grammar.{Expression, spelling, tree}
use Rattle.bool_expr.specs.Read.{first_unknown, number_in, place_by}
use Rattle.bool_expr.specs.Tree.{Tree}
use Rattle.assert_syntax.specs.declared.form.LineFault.{LineFault}
use Rattle.assert_syntax.specs.declared.form.LineFault.TheVariants as clause
use Rattle.assert_syntax.specs.declared.form.Span.{Span}
use Rattle.assert_syntax.specs.declared.form.Span.TheVariants as span
use Rattle.assert_syntax.specs.Forms.{Clause}
use Rattle.assert_syntax.specs.Parses.{Parse, is_deep, tree_over}
use Rattle.assert_syntax.specs.Places.{clause_fault}
use Rattle.assert_syntax.specs.Spelled.{from_of, to_of}
use Rattle.ste_model.specs.declared.task.Task.{Task}
use Rattle.ste_model.specs.declared.task.Task.TheVariants.{Ste, Gste}
use Rattle.ste_model.specs.declared.task.Tasks.{Tasks}
use Rattle.ste_model.specs.Trees.{QuintTree}
use Rattle.rule_model.specs.Claims.{Claim, claim_of}
use Rattle.rule_model.specs.Rules.{later_by, substitute_in}
use Rattle.ste_rules.specs.declared.form.Growth.{Growth}
use Rattle.ste_rules.specs.declared.form.Growth.TheVariants.{Closed, Antecedent, Both}
use Rattle.ste_rules.specs.Covers.{are_covered}
use Rattle.ste_rules.specs.Forms.{StepEntry, StepForm}
use Rattle.ste_rules.specs.Forms as form
use Rattle.ste_rules.specs.Sizes.{claim_fits}

-- what is wrong with a line
pub data StepFault : Type 0 where
  -- it has no form, stands where it may not, or has a text for an expression that is none
  bad : StepFault
  -- an expression is nested above 100
  deep : StepFault
  -- a step of this name was given before
  double : List ℕ → StepFault
  -- this is the name of no earlier step, or of no assertion of the task file
  unnamed : List ℕ → StepFault
  -- this variable is not declared
  undeclared : List ℕ → StepFault
  -- this node names no net
  unresolved : List ℕ → StepFault
  -- a claim with `reset` is moved
  with_reset : StepFault
  -- there is no consequent of such a number
  bad_number : StepFault
  -- an antecedent is not covered
  uncovered : StepFault
  -- with it there are too many steps, or its step is too large
  many : StepFault

-- the steps so far: their names, what they claim, and the numbers of the tasks of the leaves, each
-- in the order of the lines; and what an `.ant` line adds to
pub record Steps : Type 0 where
  pub names : List (List ℕ)
  pub claims : List Claim
  pub leaves : List ℕ
  pub growth : Growth

-- before the first line
abbrev pub no_steps : Steps
no_steps = record { names = []; claims = []; leaves = []; growth = Closed }

-- what comes of something that may be at fault, where it is not
abbrev pub and_then : {X Y : Type 0} → Result X StepFault → (X → Result Y StepFault) →
    Result Y StepFault
and_then (Ok x) more = more x
and_then (Err fault) more = Err fault

-- no fault where this holds
abbrev pub unless : StepFault → Bool → Result (Unit {0}) StepFault
unless fault true = Ok tt
unless fault false = Err fault

-- what there is, or else this fault
abbrev pub some_or : {X : Type 0} → StepFault → Option X → Result X StepFault
some_or fault None = Err fault
some_or fault (Some x) = Ok x

-- no step has this name
abbrev pub fresh : Steps → List ℕ → Result (Unit {0}) StepFault
fresh steps name = unless (double name) (not (list_any (bytes_eq name) steps.names))

-- what the step of this name claims
abbrev pub step_named : Steps → List ℕ → Result Claim StepFault
step_named steps name =
    some_or (unnamed name)
    (option_and_then (λ n. slice_get steps.claims n) (position (bytes_eq name) steps.names))

-- the task is an assertion of this name
abbrev pub is_assertion_of : List ℕ → Task → Bool
is_assertion_of name (Ste task) = bytes_eq name task.name
is_assertion_of name (Gste graph) = false

-- what the task of this number claims, where it is an assertion
abbrev pub task_claim : Task → Option Claim
task_claim (Ste task) = Some (claim_of task)
task_claim (Gste graph) = None

-- the number of the first assertion of this name, and what it claims
abbrev pub leaf_named : List Task → List ℕ → Result (ℕ × Claim) StepFault
leaf_named tasks name =
    and_then (some_or (unnamed name) (position (is_assertion_of name) tasks)) (λ n.
    and_then (some_or (unnamed name) (option_and_then task_claim (slice_get tasks n))) (λ claim.
    Ok (n, claim)))

-- what a text spells, which may be nothing, and is nested at most 100
abbrev pub read_as : Option Expression → Result Expression StepFault
read_as None = Err bad
read_as (Some d) = if is_deep d then Err deep else Ok d

-- no variable of an expression is the first that is not declared
abbrev pub none_unknown : Option (List ℕ) → Result (Unit {0}) StepFault
none_unknown None = Ok tt
none_unknown (Some name) = Err (undeclared name)

-- the number of a variable
abbrev pub variable_named : List (List ℕ) → List ℕ → Result ℕ StepFault
variable_named vars name = some_or (undeclared name) (number_in vars name)

-- a new step with this name and this claim, where there is room and the claim is not too large
abbrev pub begun : Steps → List ℕ → Claim → Growth → Result Steps StepFault
begun steps name claim growth =
    and_then (unless many (claim_fits claim && nat_lt (length steps.names) 1000)) (λ _.
    Ok (record {
      names = steps.names ++ name ∷ [];
      claims = steps.claims ++ claim ∷ [];
      leaves = steps.leaves;
      growth = growth;
    }))

-- nothing at all
abbrev pub empty_claim : Claim
empty_claim = record { reset = false; ant = []; con = [] }

-- two claims together
abbrev pub both_claim : Claim → Claim → Claim
both_claim one other =
    record {
      reset = one.reset || other.reset;
      ant = one.ant ++ other.ant;
      con = one.con ++ other.con;
    }

-- a claim so many times later
abbrev pub later_claim : ℕ → Claim → Claim
later_claim n claim = record {
  reset = claim.reset;
  ant = map (later_by n) claim.ant;
  con = map (later_by n) claim.con;
}

-- a claim with a tree for a variable, everywhere at once
abbrev pub special_claim : ℕ → Tree → Claim → Claim
special_claim x by claim = record {
  reset = claim.reset;
  ant = map (substitute_in x by) claim.ant;
  con = map (substitute_in x by) claim.con;
}

-- the quintuples of a list at these numbers, in their order
abbrev pub picked_with : Option QuintTree → List QuintTree → List QuintTree
picked_with None quints = quints
picked_with (Some quint) quints = quint ∷ quints

abbrev pub picked : List QuintTree → List ℕ → List QuintTree
picked quints [] = []
picked quints (n ∷ numbers) = picked_with (slice_get quints n) (picked quints numbers)

-- a claim with the consequents of these numbers alone
abbrev pub weaker_claim : List ℕ → Claim → Claim
weaker_claim numbers claim =
    record { reset = claim.reset; ant = claim.ant; con = picked claim.con numbers }

-- the antecedent of one claim, and the consequent of the other
abbrev pub cut_claim : Claim → Claim → Claim
cut_claim one other =
    record { reset = one.reset || other.reset; ant = one.ant; con = other.con }

-- each of these is the number of a consequent
abbrev pub are_consequents : Claim → List ℕ → Bool
are_consequents claim numbers = list_all (λ n. nat_lt n (length claim.con)) numbers

-- the antecedent of the second claim is covered by what the first one speaks of
abbrev pub is_cut : Claim → Claim → Bool
is_cut one other = are_covered one.ant one.con other.ant

-- a claim with one antecedent more, or one antecedent and consequent
abbrev pub grown_claim : Growth → QuintTree → Claim → Result Claim StepFault
grown_claim Closed quint claim = Err bad
grown_claim Antecedent quint claim =
    Ok (record { reset = claim.reset; ant = claim.ant ++ quint ∷ []; con = claim.con })
grown_claim Both quint claim =
    Ok (record {
      reset = claim.reset;
      ant = claim.ant ++ quint ∷ [];
      con = claim.con ++ quint ∷ [];
    })

-- the claims with the last one grown, where it is not too large then
abbrev pub last_grown : Growth → QuintTree → List Claim → Result (List Claim) StepFault
last_grown growth quint [] = Err bad
last_grown growth quint (claim ∷ []) =
    and_then (grown_claim growth quint claim) (λ grown.
    and_then (unless many (claim_fits grown)) (λ _. Ok (grown ∷ [])))
last_grown growth quint (claim ∷ next ∷ claims) =
    and_then (last_grown growth quint (next ∷ claims)) (λ grown. Ok (claim ∷ grown))

-- an `.ant` line may stand here
abbrev pub may_grow : Growth → Bool
may_grow Closed = false
may_grow Antecedent = true
may_grow Both = true

-- what is wrong with a clause of a task
abbrev pub clause_told : Option LineFault → Result (Unit {0}) StepFault
clause_told None = Ok tt
clause_told (Some clause.Bad) = Err bad
clause_told (Some clause.Deep) = Err deep
clause_told (Some (clause.Double name)) = Err (double name)
clause_told (Some (clause.Unknown name)) = Err (undeclared name)
clause_told (Some clause.Many) = Err many

-- no time is too late
abbrev pub is_in_time : Span → Bool
is_in_time span.Late = false
is_in_time other = true

-- the quintuple of a clause on this net, over these variables
abbrev pub quint_given : Parse → List (List ℕ) → Clause → ℕ → QuintTree
quint_given parse vars clause net = record {
  guard = tree_over vars (parse clause.guard);
  node = net;
  value = tree_over vars (parse clause.value);
  from = from_of clause.span;
  to = to_of clause.span;
}

-- the steps behind an `.ant` line: it stands where it may, its expressions are sound, its node names
-- a net, its times are not too late, and the step that it adds to is not too large with it
abbrev pub grown : Parse → List (List ℕ) → (List ℕ → Option ℕ) → Steps → Clause →
    Result Steps StepFault
grown parse vars net_of steps clause =
    and_then (unless bad (may_grow steps.growth)) (λ _.
    and_then (clause_told (clause_fault vars (parse clause.value) (parse clause.guard)
    span.Absent)) (λ _.
    and_then (some_or (unresolved clause.node) (net_of clause.node)) (λ net.
    and_then (unless many (is_in_time clause.span)) (λ _.
    and_then (last_grown steps.growth (quint_given parse vars clause net) steps.claims) (λ claims.
    Ok (record {
      names = steps.names;
      claims = claims;
      leaves = steps.leaves;
      growth = steps.growth;
    }))))))

-- the steps behind a `.specialise` line, over these variables
abbrev pub specialised : Parse → List (List ℕ) → Steps → List ℕ → List ℕ → List ℕ → List ℕ →
    Result Steps StepFault
specialised parse vars steps name one variable text =
    and_then (read_as (parse text)) (λ d.
    and_then (fresh steps name) (λ _.
    and_then (step_named steps one) (λ claim.
    and_then (variable_named vars variable) (λ x.
    and_then (none_unknown (first_unknown (number_in vars) (spelling d))) (λ _.
    begun steps name (special_claim x (tree (place_by (number_in vars)) d) claim) Closed)))))

-- the steps with the number of one leaf more
abbrev pub with_leaf : ℕ → Steps → Steps
with_leaf n steps =
    record {
      names = steps.names;
      claims = steps.claims;
      leaves = steps.leaves ++ n ∷ [];
      growth = steps.growth;
    }

-- The steps behind a line of this form, or the first thing that is wrong with the line, over these
-- tasks and with these nets for nodes. What is wrong is looked for in the order of `StepFault`.
abbrev pub turn : Parse → (List ℕ → Option ℕ) → Tasks → Steps → StepForm → Result Steps StepFault
turn parse net_of tasks steps (form.leaf name task) =
    and_then (fresh steps name) (λ _.
    and_then (leaf_named tasks.tasks task) (λ found.
    and_then (begun steps name found.1 Closed) (λ next. Ok (with_leaf found.0 next))))
turn parse net_of tasks steps (form.identity name) =
    and_then (fresh steps name) (λ _. begun steps name empty_claim Both)
turn parse net_of tasks steps (form.both name one other) =
    and_then (fresh steps name) (λ _.
    and_then (step_named steps one) (λ first.
    and_then (step_named steps other) (λ second.
    begun steps name (both_claim first second) Closed)))
turn parse net_of tasks steps (form.shift name one n) =
    and_then (fresh steps name) (λ _.
    and_then (step_named steps one) (λ claim.
    and_then (unless with_reset (not claim.reset)) (λ _.
    begun steps name (later_claim n claim) Closed)))
turn parse net_of tasks steps (form.specialise name one variable text) =
    specialised parse tasks.vars steps name one variable text
turn parse net_of tasks steps (form.stronger name one) =
    and_then (fresh steps name) (λ _.
    and_then (step_named steps one) (λ claim. begun steps name claim Antecedent))
turn parse net_of tasks steps (form.weaker name one numbers) =
    and_then (fresh steps name) (λ _.
    and_then (step_named steps one) (λ claim.
    and_then (unless bad_number (are_consequents claim numbers)) (λ _.
    begun steps name (weaker_claim numbers claim) Closed)))
turn parse net_of tasks steps (form.cut name one other) =
    and_then (fresh steps name) (λ _.
    and_then (step_named steps one) (λ first.
    and_then (step_named steps other) (λ second.
    and_then (unless uncovered (is_cut first second)) (λ _.
    begun steps name (cut_claim first second) Closed))))
turn parse net_of tasks steps (form.given clause) = grown parse tasks.vars net_of steps clause
turn parse net_of tasks steps form.wrong = Err bad

-- the steps behind a line, or the line's number with what is wrong with it
abbrev pub on_line : {X : Type 0} → ℕ → Result X StepFault → Result X (ℕ × StepFault)
on_line line (Ok steps) = Ok steps
on_line line (Err fault) = Err (line, fault)

-- what comes of steps, where there are any
abbrev pub go_on : Result Steps (ℕ × StepFault) → (Steps → Result Steps (ℕ × StepFault)) →
    Result Steps (ℕ × StepFault)
go_on (Ok steps) more = more steps
go_on (Err fault) more = Err fault

-- the steps behind lines, or the number of the first faulty line with what is wrong with it
abbrev pub steps_behind : Parse → (List ℕ → Option ℕ) → Tasks → Steps → List StepEntry →
    Result Steps (ℕ × StepFault)
steps_behind parse net_of tasks steps [] = Ok steps
steps_behind parse net_of tasks steps (line ∷ lines) =
    go_on (on_line line.line (turn parse net_of tasks steps line.form)) (λ next.
    steps_behind parse net_of tasks next lines)

-- the steps of a derivation, or its first faulty line
abbrev pub steps_of : Parse → (List ℕ → Option ℕ) → Tasks → List StepEntry →
    Result Steps (ℕ × StepFault)
steps_of parse net_of tasks lines = steps_behind parse net_of tasks no_steps lines
