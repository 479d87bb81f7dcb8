-- A frame that a deframer lends.
use Rattle.ppp_frame.specs.Header.{Read, reads}
use Rattle.ppp_frame.specs.declared.frame_ref.FrameRef.{FrameRef}

abbrev pub frame_ref_seen : FrameRef → Read
frame_ref_seen f = reads f.protocol f.info.now
