-- For private functions. How a name lies in memory; contracts see its bytes alone.
use Rattle.std.specs.Prelude.{ℕ, ◌<◌, ◌≤◌, List, length, take}
use Rattle.ste_base.specs.declared.name.Stored.{Stored}
use Rattle.ste_base.specs.declared.name.Stored.TheVariants.{Short, Long}

-- the bytes of a name that lies so
abbrev pub bytes_of : Stored → List ℕ
bytes_of (Short count bytes) = take count bytes
bytes_of (Long bytes) = bytes.items

-- the short form has room for 24 bytes, and a name of up to 24 bytes has that form
abbrev pub IsStored : Stored → Type 0
IsStored (Short count bytes) = count ≤ 24
IsStored (Long bytes) = 24 < length bytes.items
