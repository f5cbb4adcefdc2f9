-- What is seen of all tables of a track.
use Rattle.std.specs.Prelude.{ℕ, List}
use Rattle.spec_boxes.specs.Tables as boxes
use Rattle.spec_boxes.specs.TablesAt as tables
use Rattle.mp4_boxes.specs.declared.tables.TableBoxes.{TableBoxes}
use Rattle.mp4_boxes.specs.declared.tables.Tables.{Tables}
use Rattle.mp4_boxes.specs.Views.{box_of, StandsIn}
use Rattle.mp4_boxes.specs.TableViews.{sizes_of, places_of, run_list}

abbrev pub table_boxes_of : TableBoxes → boxes.TableBoxes
table_boxes_of t = record { stsd = box_of t.stsd; stts = box_of t.stts; stsc = box_of t.stsc; stsz = box_of t.stsz; chunks = box_of t.chunks }

-- each is a part of the file
pub record TablesStand (f : List ℕ) (t : TableBoxes) : Type 0 where
  pub stsd : StandsIn f t.stsd
  pub stts : StandsIn f t.stts
  pub stsc : StandsIn f t.stsc
  pub stsz : StandsIn f t.stsz
  pub chunks : StandsIn f t.chunks

abbrev pub tables_of : Tables → tables.Tables
tables_of t = record { boxes = table_boxes_of t.boxes; sizes = sizes_of t.sizes; places = places_of t.places; runs = run_list t.runs }
