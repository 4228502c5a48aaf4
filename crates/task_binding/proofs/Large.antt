-- The size of tasks, task by task.
use Rattle.std.proofs.Common.{ℕ, zero, suc, ◌+◌, ◌-◌, ◌*◌, ◌<◌, ◌≤◌, ◌≡◌, refl, sym, ap, ◌∙◌, List, length, get_or, take, add-one, min, Bool, true, false, nat_le, Some, arith}
use Rattle.std.specs.Prelude.{sum_by}
use Rattle.std.proofs.Math.Nat.{suc-mul, zero-mul}
use Rattle.std.proofs.lemmas.List.Sums.{sum_by_more}
use Rattle.std.proofs.lemmas.Option.{slice_get-get_or}
use Rattle.assert_syntax.specs.declared.tasks.RawTask.{RawTask}
use Rattle.task_binding.specs.Sizes.{cells, head_line, IsFirstLarge}

least_small : (s m : ℕ) → s ≤ m → min s m ≡ s
least_small s m h = omega (arith, h)

least_large : (s m : ℕ) → m ≤ s → min s m ≡ m
least_large s m h = omega (arith, h)

-- a product with a number that is large is large
product_large : (n s m : ℕ) → m ≤ s → min (suc n * s) m ≡ m
product_large n s m h = let a = suc-mul n s in omega (arith, a, h)

short_by : (b : Bool) (n s m : ℕ) → nat_le s m ≡ b → min (n * min s m) m ≡ min (n * s) m
short_by true n s m e = ap (λ k. min (n * k) m) (least_small s m (grind (arith, e)))
short_by false zero s m e = let a = zero-mul s in let b = zero-mul (min s m) in omega (arith, a, b)
short_by false (suc n) s m e =
    let h : m ≤ s = grind (arith, e) in
    ap (λ k. min (suc n * k) m) (least_large s m h) ∙ product_large n m m (omega arith) ∙ sym (product_large n s m h)

-- a number that is counted up to 2^64 - 1 counts the same under a product that is so
pub short_rows : (n s : ℕ) → min (n * min s 18446744073709551615) 18446744073709551615 ≡ min (n * s) 18446744073709551615
short_rows n s = short_by (nat_le s 18446744073709551615) n s 18446744073709551615 refl

-- one more task, which is too large
pub large_turn : (nets : ℕ) (tasks : List RawTask) (i : ℕ) (task : RawTask) (line size total : ℕ) → i < length tasks → task ≡ get_or tasks i task → size ≡ min (cells nets task) 18446744073709551615 → 100000000 - total < size → total ≡ sum_by (cells nets) (take i tasks) → total ≤ 100000000 → line ≡ head_line task → IsFirstLarge nets tasks line
large_turn nets tasks i task line size total h g e large so_far within l =
    let more = sum_by_more (cells nets) tasks i task h in
    let same : cells nets (get_or tasks i task) ≡ cells nets task = ap (cells nets) (sym g) in
    let counted : sum_by (cells nets) (take (suc i) tasks) ≡ sum_by (cells nets) (take (i + 1) tasks) = ap (λ k. sum_by (cells nets) (take k tasks)) (sym (add-one i)) in record {
      place = i;
      task = task;
      here = slice_get-get_or tasks i task h ∙ ap Some (sym g);
      headed = sym l;
      large = omega (arith, counted, more, same, e, large, so_far, within);
      before = omega (arith, so_far, within);
    }
