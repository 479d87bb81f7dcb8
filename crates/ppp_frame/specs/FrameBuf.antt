-- A buffer that holds one frame.
use Rattle.std.specs.Prelude.{◌≡◌, ℕ, ◌≤◌, List, length, take}
use Rattle.ppp_frame.specs.declared.frame_buf.FrameBuf.TheInside.{Inside}
use Rattle.ppp_frame.specs.declared.frame_buf.TheConstants.{ROOM}

abbrev pub frame_seen : Inside → List ℕ
frame_seen b = take b.len b.room.items

pub record IsFrameBuf (b : Inside) : Type 0 where
  pub room : length b.room.items ≡ ROOM
  pub within : b.len ≤ ROOM
