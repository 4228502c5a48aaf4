-- For private functions. Bits of all nets at some times in a row, which the rows do not have yet.
use Rattle.std.specs.Prelude.{◌≡◌, ◌≤◌, ◌-◌, ◌*◌, ◌+◌, ◌&&◌, ℕ, Bool, length, if◌then◌else◌, nat_le, nat_lt}
use Rattle.clock_step.specs.Determined.{bit_at}
use Rattle.counter_run.specs.declared.block.Block.{Block}

-- a bit for each of so many nets at each of the times
pub record IsBlock (count : ℕ) (block : Block) : Type 0 where
  pub nets : block.nets ≡ count
  pub ordered : block.from ≤ block.to
  pub long : length block.bits.items ≡ (block.to - block.from) * block.nets

-- the bit of a net at one of the times
abbrev pub block_bit : Block → ℕ → ℕ → Bool
block_bit block s id = bit_at block.bits.items ((s - block.from) * block.nets + id)

-- the bits of the block at its times, and others at all other times
abbrev pub over_block : (ℕ → ℕ → Bool) → Block → ℕ → ℕ → Bool
over_block given block s id =
    if (nat_le block.from s && nat_lt s block.to) then block_bit block s id else given s id
