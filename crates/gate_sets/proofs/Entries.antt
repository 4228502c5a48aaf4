-- The sets that the recursion for one gate has found: what is put is an entry, and stays one where more is put.
use Rattle.std.proofs.Common.{◌≡◌, ◌≤◌, ◌+◌, ◌-◌, ℕ, List, [], ◌∷◌, ◌++◌, length, take, drop, sym, ◌∙◌, ap, subst, arith}
use Rattle.std.specs.Prelude.{All}
use Rattle.std.proofs.lemmas.List.{drop-append-le, drop_at, length-append, length-drop, take-append-le, take_all}
use Rattle.std.proofs.lemmas.List.Elements.{All-push, All-weaker}
use Rattle.dd_nodes.specs.Stores.{Store}
use Rattle.dual_rail.specs.declared.rails.Rails.{Rails}
use Rattle.dual_rail.specs.Rail.{AreRails, AreRefs}
use Rattle.gate_sets.specs.declared.gate_memo.Entry.{Entry}
use Rattle.gate_sets.specs.private.TruthTables.{IsEntry, entry_operands, set_by_tables}

-- references that stand in a list stand there still where more are behind it
operands_stay : (n : ℕ) (xs ys : List Rails) (e : Entry) → e.begin + n ≤ length xs → entry_operands n (xs ++ ys) e ≡ entry_operands n xs e
operands_stay n xs ys e le =
    let rest : length (drop e.begin xs) ≡ length xs - e.begin = length-drop e.begin xs in
    ap (take n) (drop-append-le e.begin xs ys (omega (arith, le))) ∙ take-append-le n (drop e.begin xs) ys (omega (arith, le, rest))

-- an entry stays one where more references are behind its own
entry_stays : (s : Store) (n : ℕ) (xs ys : List Rails) (e : Entry) → IsEntry s n xs e → IsEntry s n (xs ++ ys) e
entry_stays s n xs ys e is =
    let same = sym (operands_stay n xs ys e is.inside) in
    let long : length (xs ++ ys) ≡ length xs + length ys = length-append xs ys in
    let inside = is.inside in
    record {
      inside = omega (arith, long, inside);
      refs = subst (All (AreRefs s)) same is.refs;
      set = subst (λ (rs : List Rails). AreRails s (set_by_tables e.tables s rs) e.rails) same is.set;
    }

-- references behind a list, and the set for them, are an entry
entry_behind : (s : Store) (xs ys : List Rails) (e : Entry) → e.begin ≡ length xs → All (AreRefs s) ys → AreRails s (set_by_tables e.tables s ys) e.rails → IsEntry s (length ys) (xs ++ ys) e
entry_behind s xs ys e begin refs set =
    let same : ys ≡ entry_operands (length ys) (xs ++ ys) e = sym (ap (take (length ys)) (drop_at xs ys e.begin (sym begin)) ∙ take_all (length ys) ys (omega arith)) in
    let long : length (xs ++ ys) ≡ length xs + length ys = length-append xs ys in
    record {
      inside = omega (arith, long, begin);
      refs = subst (All (AreRefs s)) same refs;
      set = subst (λ (rs : List Rails). AreRails s (set_by_tables e.tables s rs) e.rails) same set;
    }

-- all entries stay, with one more
pub entries_and_one : (s : Store) (xs ys : List Rails) (es : List Entry) (e : Entry) → e.begin ≡ length xs → All (IsEntry s (length ys) xs) es → All (AreRefs s) ys → AreRails s (set_by_tables e.tables s ys) e.rails
    → All (IsEntry s (length ys) (xs ++ ys)) (es ++ e ∷ [])
entries_and_one s xs ys es e begin are refs set =
    All-push (IsEntry s (length ys) (xs ++ ys)) es e (All-weaker (IsEntry s (length ys) xs) (IsEntry s (length ys) (xs ++ ys)) (λ e is. entry_stays s (length ys) xs ys e is) es are)
    (entry_behind s xs ys e begin refs set)
