-- `arch::builder::build` meets its contract: the spelt path is copied to the front of the bytes, where there is room. Assumes nothing.
use Rattle.std.proofs.Common.{sym, ◌∙◌}
use Rattle.arch.proofs.Writing.{room_in_front, front-length, part-length, put_in_front}
use Rattle.arch.proofs.builder.build.Goals as goal

pub slice_bounds-copy_from_slice-end : goal.slice_bounds-copy_from_slice-end
slice_bounds-copy_from_slice-end c = room_in_front c.spell-from.ensures c.requires.0 _ c.requires.1

pub slice_bounds-copy_from_slice-end-2 : goal.slice_bounds-copy_from_slice-end-2
slice_bounds-copy_from_slice-end-2 c = front-length c.spell-from.ensures c.requires.0 _ c.requires.1

pub copy_from_slice-requires : goal.copy_from_slice-requires
copy_from_slice-requires c =
    sym (front-length c.spell-from.ensures c.requires.0 _ c.requires.1) ∙ sym (part-length c.spell-from.ensures c.requires.0 c.args.out.now)

pub returns : goal.returns
returns c = put_in_front c.spell-from.ensures c.requires.0 _ _ c.copy_from_slice.ensures.after
