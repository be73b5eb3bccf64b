-- `packing::put::put_bytes` meets its contract: the bytes are copied to their place. Assumes nothing.
use native.Mathlib.Omega.{arith}
use Rattle.packing.proofs.Pastes.{put-pasted}
use Rattle.packing.proofs.put.put_bytes.Goals as goal

pub returns : goal.returns
returns c = put-pasted _ _ _ _ _ (omega arith) c.copy_from_slice.ensures.after
