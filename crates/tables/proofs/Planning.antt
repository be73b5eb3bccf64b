-- The plan of a shape, and the table that it leads to. Assumes nothing.
--
--   prepared_for, prepared-last    all that `fill` asks, for a size that has room and for the last one
--   sizes_for                      bounds of the plan's numbers
use mathlib.Core.Path.{◌≡◌, refl}
use mathlib.Core.List.{List}
use Prim.Native.Nat.{ℕ, ◌≤◌}
use native.Mathlib.Omega.{arith}
use Rattle.tables.specs.declared.Plan.{Plan}
use Rattle.tables.specs.Table.{Offsets}
use Rattle.tables.specs.Plans.{stride_for, cells_for, SizesFor, Planned, PreparedFor}
use Rattle.tables.proofs.Prepare.{prepared}

module _ {sa sc : List ℕ} {p : Plan} (pl : Planned sa sc p) where
  module _ {off : List ℕ} (of : Offsets sa sc off (stride_for p)) where
    pub prepared_for : {cells : ℕ} → cells ≡ cells_for p → (size : ℕ) → cells ≤ size → PreparedFor p sa sc off size
    prepared_for e size h = prepared pl.form pl.steep pl.deep pl.fewer of size (omega arith)

    pub sizes_for : SizesFor p
    sizes_for = (prepared_for refl (cells_for p) (omega arith)).sizes

    -- the last size has room for every plan
    pub prepared-last : PreparedFor p sa sc off 3712
    prepared-last = prepared_for refl 3712 sizes_for.cells
