-- What a table of places says is what the definitions of a right trace say.
use Rattle.std.specs.Prelude.{◌≡◌, ℕ, Option, Some, None}
use Rattle.number_table.specs.Entries.{entry_at}
use Rattle.right_trace.specs.Trace.{History}
use Rattle.right_trace.specs.Places.{Site, Stand, Unused, Opening, Alive, Gone, site, stand}
use Rattle.trace_tables.specs.declared.places.{Place.Place, Stand.Stand as Seen}
use Rattle.trace_tables.specs.declared.places.Stand.TheVariants as seen
use Rattle.trace_tables.specs.Tables.{Table}

abbrev pub stand_of : Seen → Stand
stand_of seen.Opening = Opening
stand_of seen.Alive = Alive
stand_of seen.Gone = Gone

abbrev pub stand_seen : Option Place → Stand
stand_seen None = Unused
stand_seen (Some x) = stand_of x.stand

abbrev pub site_seen : Option Place → Option Site
site_seen None = None
site_seen (Some x) = Some (record { via = x.via; server = x.server })

-- of each place, of which kind and server it is, and how it stands
pub record Known (h : History) (t : Table) : Type 0 where
  pub sites : (p : ℕ) → site_seen (entry_at p t) ≡ site p h
  pub stands : (p : ℕ) → stand_seen (entry_at p t) ≡ stand p h
