-- Conditions. How a list of tokens is gone through once, with the open brackets in a
-- list: whether it is an expression, and how deep it is nested. That this is so by the grammar is
-- proved.
use Rattle.std.specs.Prelude.{ℕ, ◌+◌, min, max, List, [], ◌∷◌, Bool, true, false, if◌then◌else◌, Option, Some, None}
use Rattle.bool_expr.specs.declared.scan.Scan.{Scan}
use Rattle.bool_expr.specs.Tokens.{Token, sign, negation, opening, closing, constant, variable, wrong}

-- how far the tokens are read; depths are counted up to a limit
pub record ScanState : Type 0 where
  -- a factor has to come next
  pub wants : Bool
  -- the `!` and brackets round what comes next
  pub depth : ℕ
  -- the brackets round it, with the `!` before them
  pub base : ℕ
  -- the greatest depth of a constant or variable so far
  pub deepest : ℕ
  -- the base outside each open bracket, the innermost first
  pub outer : List ℕ

-- the same without where it lies in memory
abbrev pub scan_state : Scan → ScanState
scan_state scan =
    record {
      wants = scan.wants_factor;
      depth = scan.depth;
      base = scan.base;
      deepest = scan.deepest;
      outer = scan.outer.items;
    }

-- one more than a depth, counted up to the limit
abbrev pub deeper : ℕ → ℕ → ℕ
deeper limit depth = min (depth + 1) limit

-- behind a constant or a variable
abbrev pub behind_factor : ScanState → Option ScanState
behind_factor s =
    if s.wants then Some (record {
      wants = false;
      depth = s.base;
      base = s.base;
      deepest = max s.deepest s.depth;
      outer = s.outer;
    }) else None

-- behind a closing bracket
abbrev pub behind_bracket : ScanState → List ℕ → Option ScanState
behind_bracket s [] = None
behind_bracket s (base ∷ outer) =
    Some (record { wants = false; depth = base; base = base; deepest = s.deepest; outer = outer })

-- one more token; None where it may not stand here
abbrev pub step : ℕ → ScanState → Token → Option ScanState
step limit s (sign _) =
    if s.wants then None
    else Some (record {
      wants = true;
      depth = s.depth;
      base = s.base;
      deepest = s.deepest;
      outer = s.outer;
    })
step limit s negation =
    if s.wants then Some (record {
      wants = true;
      depth = deeper limit s.depth;
      base = s.base;
      deepest = s.deepest;
      outer = s.outer;
    }) else None
step limit s opening =
    if s.wants then Some (record {
      wants = true;
      depth = deeper limit s.depth;
      base = deeper limit s.depth;
      deepest = s.deepest;
      outer = s.base ∷ s.outer;
    }) else None
step limit s closing = if s.wants then None else behind_bracket s s.outer
step limit s (constant _) = behind_factor s
step limit s (variable _) = behind_factor s
step limit s wrong = None

-- what a step leads to, if it leads on
abbrev pub if_on : Option ScanState → (ScanState → Option ℕ) → Option ℕ
if_on None f = None
if_on (Some s) f = f s

-- at the end: the greatest depth
abbrev pub depth_at_end : Bool → List ℕ → ℕ → Option ℕ
depth_at_end false [] deepest = Some deepest
depth_at_end _ _ deepest = None

-- the nesting of the tokens, counted up to the limit; None where they are no expression
abbrev pub scan_from : ℕ → ScanState → List Token → Option ℕ
scan_from limit s [] = depth_at_end s.wants s.outer s.deepest
scan_from limit s (token ∷ tokens) =
    if_on (step limit s token) (λ next. scan_from limit next tokens)

-- before the first token
abbrev pub scan_start : ScanState
scan_start = record { wants = true; depth = 0; base = 0; deepest = 0; outer = [] }
