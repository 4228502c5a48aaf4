-- The trees of expressions with parts, and what is said of them part by part.
use Rattle.std.proofs.Common.{ℕ, suc, ◌-◌, ◌≤◌, ◌≡◌, refl, ap, sym, ◌∙◌, arith, List, [], ◌∷◌, ◌++◌, map, length, drop, Bool, nat_le, ◌||◌, ◌==◌, Vec, Global, codes, append_assoc, append-nil}
use Rattle.std.specs.List.{flat_map, list_all, list_any}
use Rattle.std.proofs.lemmas.List.Folds.{list_all-map}
use Rattle.std.proofs.lemmas.List.{drop_all}
use Rattle.bool_expr.specs.declared.expr.Expr.{Expr, All, Odd, Any}
use Rattle.bool_expr.specs.declared.expr.Expr.TheVariants as whole
use Rattle.bool_expr.specs.declared.expr.Expr.TheFolds.{fold-roll-Expr}
use Rattle.bool_expr.specs.declared.token.Sign.{Sign}
use Rattle.bool_expr.specs.declared.token.Sign.TheVariants.{Or, Xor, And}
use Rattle.bool_expr.specs.Tree.{Tree, all_of, tree_of, tree_step, under, none, more}
use Rattle.ste_model.specs.declared.task.Quint.{Quint}
use Rattle.ste_model.specs.Trees.{QuintTree, quint_tree}
use Rattle.rule_model.specs.Rules.{substitute, substitute_all, substitute_in}
use Rattle.ste_rules.specs.Covers.{are_covered, are_same_trees, covers, is_covered, is_same_tree}
use Rattle.ste_rules.specs.Sizes.{quint_fits}
use Rattle.ste_rules.specs.Text.{expr_text, sign_text, signed_text}
use Rattle.ste_rules.specs.private.Held.{listed_text}

pub all_tree : (e : Expr) (parts : Vec Expr Global) (xs : List Expr) → e ≡ All parts → xs ≡ parts.items → tree_of e ≡ under And (all_of (map tree_of xs))
all_tree e parts xs is same = ap tree_of (is ∙ sym (whole.rolls-All parts)) ∙ fold-roll-Expr Tree tree_step _ ∙ ap (λ ys. under And (all_of (map tree_of ys))) (sym same)

pub odd_tree : (e : Expr) (parts : Vec Expr Global) (xs : List Expr) → e ≡ Odd parts → xs ≡ parts.items → tree_of e ≡ under Xor (all_of (map tree_of xs))
odd_tree e parts xs is same = ap tree_of (is ∙ sym (whole.rolls-Odd parts)) ∙ fold-roll-Expr Tree tree_step _ ∙ ap (λ ys. under Xor (all_of (map tree_of ys))) (sym same)

pub any_tree : (e : Expr) (parts : Vec Expr Global) (xs : List Expr) → e ≡ Any parts → xs ≡ parts.items → tree_of e ≡ under Or (all_of (map tree_of xs))
any_tree e parts xs is same = ap tree_of (is ∙ sym (whole.rolls-Any parts)) ∙ fold-roll-Expr Tree tree_step _ ∙ ap (λ ys. under Or (all_of (map tree_of ys))) (sym same)

-- one level more, of one more than so many
pub one_more : (m n : ℕ) → (n ≡ 0 → ⊥) → nat_le m (n - 1) ≡ nat_le (suc m) n
one_more m n h = grind (arith, h)

pub two_trees : (a b c d : Tree) (r : Bool) → r ≡ is_same_tree c d → a ≡ c → b ≡ d → r ≡ is_same_tree a b
two_trees a b c d r e first second = rw first (rw second e)

-- what is left of two lists, where the first one is at its end
end_of : (left : List Expr) → (length left == 0) ≡ are_same_trees none (all_of (map tree_of left))
end_of [] = refl
end_of (x ∷ xs) = grind (arith)

pub same_end : (ones left : List Expr) (i : ℕ) (empty all : Bool) → length ones ≤ i → empty ≡ (length left == 0) → are_same_trees (all_of (map tree_of (drop i ones))) (all_of (map tree_of left)) ≡ all → empty ≡ all
same_end ones left i empty all le e inv = e ∙ end_of left ∙ sym (ap (λ xs. are_same_trees (all_of (map tree_of xs)) (all_of (map tree_of left))) (drop_all i ones le)) ∙ inv

-- the parts with a tree for a variable, one by one
pub substituted : (x : ℕ) (by : Tree) (parts : List Expr) → all_of (map (λ part. substitute x by (tree_of part)) parts) ≡ substitute_all x by (all_of (map tree_of parts))
substituted x by [] = refl
substituted x by (part ∷ parts) = ap (more (substitute x by (tree_of part))) (substituted x by parts)

pub substituted_end : (x : ℕ) (by : Tree) (parts : List Expr) (made : List Tree) (i : ℕ) → length parts ≤ i → made ++ map (λ part. substitute x by (tree_of part)) (drop i parts) ≡ map (λ part. substitute x by (tree_of part)) parts → all_of made ≡ substitute_all x by (all_of (map tree_of parts))
substituted_end x by parts made i le inv = ap all_of (sym (append-nil made) ∙ sym (ap (λ xs. made ++ map (λ part. substitute x by (tree_of part)) xs) (drop_all i parts le)) ∙ inv) ∙ substituted x by parts

-- the texts of parts with a sign before each, one by one
signed_is : (vars : List (List ℕ)) (s : Sign) (parts : List Expr) → flat_map (λ other. sign_text s ++ other) (map (λ part. expr_text vars (tree_of part)) parts) ≡ signed_text vars s (all_of (map tree_of parts))
signed_is vars s [] = refl
signed_is vars s (part ∷ parts) =
    append_assoc (sign_text s) (expr_text vars (tree_of part)) (flat_map (λ other. sign_text s ++ other) (map (λ part. expr_text vars (tree_of part)) parts)) ∙ ap (λ text. sign_text s ++ (expr_text vars (tree_of part) ++ text)) (signed_is vars s parts)

-- a list in brackets
pub listed_is : (vars : List (List ℕ)) (s : Sign) (parts : List Expr) → codes "(" ++ (listed_text (sign_text s) (map (λ part. expr_text vars (tree_of part)) parts) ++ codes ")") ≡ expr_text vars (under s (all_of (map tree_of parts)))
listed_is vars s [] = refl
listed_is vars s (part ∷ parts) = ap (λ text. codes "(" ++ ((expr_text vars (tree_of part) ++ text) ++ codes ")")) (signed_is vars s parts)

-- one by one, through their trees
pub any_covers : (quint : QuintTree) (quints : List Quint) → list_any (λ other. covers (quint_tree other) quint) quints ≡ list_any (λ other. covers other quint) (map quint_tree quints)
any_covers quint [] = refl
any_covers quint (other ∷ quints) = ap (λ b. covers (quint_tree other) quint || b) (any_covers quint quints)

pub all_covered : (these those : List QuintTree) (quints : List Quint) → list_all (λ quint. is_covered these those (quint_tree quint)) quints ≡ are_covered these those (map quint_tree quints)
all_covered these those quints = sym (list_all-map (is_covered these those) quint_tree quints)

pub all_fit : (quints : List Quint) → list_all (λ quint. quint_fits (quint_tree quint)) quints ≡ list_all quint_fits (map quint_tree quints)
all_fit quints = sym (list_all-map quint_fits quint_tree quints)

pub all_fit_with : (x : ℕ) (by : Tree) (quints : List Quint) → list_all (λ quint. quint_fits (substitute_in x by (quint_tree quint))) quints ≡ list_all quint_fits (map (substitute_in x by) (map quint_tree quints))
all_fit_with x by quints = sym (list_all-map quint_fits (substitute_in x by) (map quint_tree quints) ∙ list_all-map (λ quint. quint_fits (substitute_in x by quint)) quint_tree quints)

pub covered_in : (these those quints xs ys zs : List Quint) (r : Bool) → r ≡ list_all (λ quint. is_covered (map quint_tree these) (map quint_tree those) (quint_tree quint)) quints → these ≡ xs → those ≡ ys → quints ≡ zs → r ≡ are_covered (map quint_tree xs) (map quint_tree ys) (map quint_tree zs)
covered_in these those quints xs ys zs r e a b d = e ∙ all_covered (map quint_tree these) (map quint_tree those) quints ∙ rw a (rw b (rw d refl))

-- four pieces, one behind the other
pub four_parts : (old f e t n one two three four : List ℕ) → one ≡ old ++ f → two ≡ one ++ e → three ≡ two ++ t → four ≡ three ++ n → four ≡ old ++ (f ++ (e ++ (t ++ n)))
four_parts old f e t n one two three four a b c d =
    d ∙ ap (λ x. x ++ n) (c ∙ ap (λ x. x ++ t) (b ∙ ap (λ x. x ++ e) a))
    ∙ append_assoc ((old ++ f) ++ e) t n ∙ append_assoc (old ++ f) e (t ++ n) ∙ append_assoc old f (e ++ (t ++ n))
