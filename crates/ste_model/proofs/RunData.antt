-- Runs as data that have the same bits are one.
use Rattle.std.proofs.Common.{◌≡◌, ℕ, suc, ◌<◌, Bool, false, List, [], ◌∷◌, length, get_or, arith, sym, ap, refl, ◌∙◌}
use Rattle.ste_model.specs.declared.run.Run.{Run}
use Rattle.ste_model.specs.Runs.{HasRows, run_of}

-- lists of as many entries that agree at each place are one
pub same_lists : {X : Type 0} (d : X) (xs ys : List X) → length xs ≡ length ys → ((k : ℕ) → k < length xs → get_or xs k d ≡ get_or ys k d) → xs ≡ ys
same_lists d [] [] l same = refl
same_lists d [] (y ∷ ys) l same = absurd (omega arith)
same_lists d (x ∷ xs) [] l same = absurd (omega arith)
same_lists d (x ∷ xs) (y ∷ ys) l same =
    let here : x ≡ y = same 0 (omega arith) in
    let rest : xs ≡ ys = same_lists d xs ys (omega arith) (λ k m. same (suc k) (omega arith)) in
    cc

same_fields : (n m : ℕ) (xs ys : List (List Bool)) → n ≡ m → xs ≡ ys → ◌≡◌ {A = Run} (record { length = n; rows = xs }) (record { length = m; rows = ys })
same_fields n m xs ys e f =
    let make : ℕ → List (List Bool) → Run = λ l rows. record { length = l; rows = rows } in
    ap (λ l. make l xs) e ∙ ap (make m) f

pub same_data : (nets times : ℕ) (one other : Run) → HasRows nets times one → HasRows nets times other → ((t id : ℕ) → t < times → id < nets → run_of one t id ≡ run_of other t id) → one ≡ other
same_data nets times one other a b same =
    let tall : length one.rows ≡ length other.rows = a.tall ∙ sym b.tall in
    same_fields one.length other.length one.rows other.rows (a.long ∙ sym b.long) (same_lists [] one.rows other.rows tall (λ id m.
    let inside : id < nets = (let e = a.tall in omega arith) in
    let wide_a : length (get_or one.rows id []) ≡ times = a.wide id [] m in
    let wide_b : length (get_or other.rows id []) ≡ times = b.wide id [] (omega arith) in
    same_lists false (get_or one.rows id []) (get_or other.rows id []) (wide_a ∙ sym wide_b) (λ t l. same t id (omega arith) inside)))
