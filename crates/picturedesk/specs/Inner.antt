-- What a private step of the export holds: frames whose numbers have to fit their places. No export's contract cites this file; proofs/Cut.antt
-- shows that the cut changes nothing.
use Rattle.plane.specs.declared.Planes.{Planes}
use Rattle.picture.specs.declared.Asked.{Asked}
use Rattle.picture.specs.Picture.{Frame, frame_of}
use Rattle.numbers.specs.Inner.{cut}

abbrev pub cut_planes : Planes → Planes
cut_planes p = record { luma = cut p.luma; cb = cut p.cb; cr = cut p.cr }

abbrev pub cut_frame : Frame → Frame
cut_frame f = frame_of (cut_planes f.shapes) f.luma f.cb f.cr

abbrev pub cut_asked : Asked → Asked
cut_asked asked = record {
  quality = asked.quality;
  output = asked.output;
  conversion = asked.conversion;
  previous = cut_planes asked.previous;
  current = cut_planes asked.current;
  next = cut_planes asked.next;
}
