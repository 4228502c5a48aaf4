use Rattle.std.proofs.Common.{◌≡◌, ◌+◌, ◌*◌, ◌<◌, ◌∷◌, ◌++◌, [], ℕ, Bool, List, All, false, drop, get_or, length, map, take, sym, ◌∙◌, ap, subst, arith}
use Rattle.std.proofs.lemmas.List.{length-append}
use Rattle.exact_engine.proofs.ChoiceLists.{columns_turn, wide_turn}
use Rattle.exact_engine.proofs.running.input_rows.Goals as goal

pub loop-k-preserved : goal.loop-k-preserved
loop-k-preserved c =
    let bits : List Bool = c.args.bits.now in
    let each = c.args.each in
    let times = c.args.times in
    let k = c.loop-k.k in
    let rows : List (List Bool) = c.loop-k.rows.items in
    let row : List Bool = c.in_ok-row.row in
    let p = c.loop-k.invariant in
    let lt : k < each = omega (arith, c.loop-k-test.true) in
    let items : c.push.new.self.items ≡ rows ++ row ∷ [] = c.in_ok-push.ensures.items in
    let one : (t : ℕ) → t < times → get_or row t false ≡ get_or (drop k bits) (t * each) false = λ t l. c.in_ok-row.ensures.bits t l ∙ ap (λ (xs : List Bool). get_or xs (t * each) false) c.beyond.ensures in
    record {
      tall = ap length items ∙ length-append rows (row ∷ []) ∙ ap (λ (n : ℕ). n + 1) p.tall;
      wide = subst (All (λ (r : List Bool). length r ≡ times)) (sym items) (wide_turn rows row times p.wide c.in_ok-row.ensures.long);
      columns = λ t l. ap (λ (rs : List (List Bool)). map (λ (r : List Bool). get_or r t false) rs) items
          ∙ columns_turn bits rows row each times k c.requires lt one p.columns t l;
    }

pub returns : goal.returns
returns c =
    let bits : List Bool = c.args.bits.now in
    let each = c.args.each in
    let rows : List (List Bool) = c.loop-k.rows.items in
    let p = c.loop-k.invariant in
    let end : c.loop-k.k ≡ each = omega (arith, c.loop-k-test.false) in
    record {
      tall = p.tall ∙ end;
      wide = p.wide;
      columns = λ t l. p.columns t l ∙ ap (λ (n : ℕ). take n (drop (t * each) bits)) end;
    }
