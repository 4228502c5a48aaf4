use Rattle.std.proofs.Common.{rules}
use Rattle.std.proofs.lemmas.List.Sorted.{IsNonDecreasingBy-from_sort_by_key}
use Rattle.work_pool.proofs.pool.put_in_order.Goals as goal

pub returns-clause-ordered : goal.returns-clause-ordered
returns-clause-ordered g c = IsNonDecreasingBy-from_sort_by_key (λ job. job.place) _ c.sort_unstable_by_key.ensures.sorted (λ a r q k. search rules)
