-- Meaning. The bytes that are written of the last step of a derivation. Source: this project's own
-- choice.
use Rattle.std.specs.Prelude.{◌++◌, ℕ, Bool, if◌then◌else◌, List, [], codes, slice_index_or}
use Rattle.std.specs.Fmt.{decimal}
use Rattle.std.specs.List.{flat_map}
use Rattle.bool_expr.specs.declared.token.Sign.{Sign}
use Rattle.bool_expr.specs.declared.token.Sign.TheVariants.{Or, Xor, And}
use Rattle.bool_expr.specs.Tree.{Tree, Trees, bit, place, opposite, under, none, more}
use Rattle.ste_model.specs.Trees.{QuintTree}
use Rattle.rule_model.specs.Claims.{Claim}

-- a sign between two parts
abbrev pub sign_text : Sign → List ℕ
sign_text Or = codes " | "
sign_text Xor = codes " ^ "
sign_text And = codes " & "

-- A tree over variables of these names: `0`, `1`, a name, `!` before its part, or a list in brackets
-- with the sign between its parts.
abbrev mutual
  pub expr_text : List (List ℕ) → Tree → List ℕ
  expr_text vars (bit b) = if b then codes "1" else codes "0"
  expr_text vars (place n) = slice_index_or vars n []
  expr_text vars (opposite part) = codes "!" ++ expr_text vars part
  expr_text vars (under s parts) = codes "(" ++ (parts_text vars s parts ++ codes ")")

  -- the parts of a list
  pub parts_text : List (List ℕ) → Sign → Trees → List ℕ
  parts_text vars s none = []
  parts_text vars s (more part parts) = expr_text vars part ++ signed_text vars s parts

  -- parts with a sign before each
  pub signed_text : List (List ℕ) → Sign → Trees → List ℕ
  signed_text vars s none = []
  signed_text vars s (more part parts) =
      sign_text s ++ (expr_text vars part ++ signed_text vars s parts)

-- the line of a quintuple, over nets of these names
abbrev pub quint_line : List ℕ → List (List ℕ) → List (List ℕ) → QuintTree → List ℕ
quint_line title nets vars quint =
    ((codes "  " ++ title) ++ (codes " " ++ slice_index_or nets quint.node []))
    ++ (((codes " = " ++ expr_text vars quint.value)
    ++ (codes " when " ++ expr_text vars quint.guard))
    ++ (((codes " from " ++ decimal quint.from) ++ (codes " to " ++ decimal quint.to))
    ++ codes "\n"))

-- the line of `reset`, where there is one
abbrev pub reset_line : Bool → List ℕ
reset_line reset = if reset then codes "  reset\n" else []

-- the lines of a step of this name with this claim, over nets and variables of these names
abbrev pub derived_text : List (List ℕ) → List (List ℕ) → List ℕ → Claim → List ℕ
derived_text nets vars name claim =
    (name ++ (codes ": derived\n" ++ reset_line claim.reset))
    ++ (flat_map (quint_line (codes "ant") nets vars) claim.ant
    ++ flat_map (quint_line (codes "con") nets vars) claim.con)
