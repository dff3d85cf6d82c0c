-- How a name is asked for, and how its answer is written: what options set, and the requests of a name.
use Rattle.std.specs.Prelude.{Bool, true, false, List, [], ◌∷◌, map, Option, None, Some}
use Rattle.dns_names.specs.Name.{Labels}
use Rattle.dns_values.specs.declared.numbers.Rtype.{Rtype}
use Rattle.dns_lookup_words.specs.declared.manner.Ask.{Ask}
use Rattle.dns_lookup_words.specs.declared.manner.Flags.{Flags}
use Rattle.dns_lookup_words.specs.declared.manner.Layout.{Layout}
use Rattle.dns_lookup_words.specs.declared.manner.Manner.{Manner}
use Rattle.dns_lookup_words.specs.declared.options.Flag.{Flag}
use Rattle.dns_lookup_words.specs.declared.options.Flag.TheVariants as flags
use Rattle.dns_lookup_words.specs.declared.options.Part.{Part}
use Rattle.dns_lookup_words.specs.declared.options.Part.TheVariants as parts
use Rattle.dns_lookup_words.specs.declared.said.Asking.{Asking}

-- where nothing is said: class IN, recursion, and all sections with comments and statistics, each record with its TTL and class
abbrev pub usual : Manner
usual = record {
  class = record { 0 = 1 };
  flags = record {
    recursion = true;
    authentic = false;
    unchecked = false;
    authoritative = false;
    truncated = false;
    available = false;
    reserved = false;
    dnssec = false;
    nsid = false;
    expire = false;
  };
  layout = record {
    short = false;
    identify = false;
    json = false;
    yaml = false;
    multiline = false;
    ttl = true;
    class = true;
    units = false;
    expanded = false;
    query = false;
    question = true;
    answer = true;
    authority = true;
    additional = true;
    comments = true;
    stats = true;
  };
}

abbrev pub usual_asking : Asking
usual_asking = record { rtype = None; typed = false; rooted = false; manner = usual }

-- a part of what a request says
abbrev pub flag_set : Flag → Bool → Flags → Flags
flag_set flags.Recursion on f = record f { recursion = on }
flag_set flags.Authentic on f = record f { authentic = on }
flag_set flags.Unchecked on f = record f { unchecked = on }
flag_set flags.Authoritative on f = record f { authoritative = on }
flag_set flags.Truncated on f = record f { truncated = on }
flag_set flags.Available on f = record f { available = on }
flag_set flags.Reserved on f = record f { reserved = on }
flag_set flags.Dnssec on f = record f { dnssec = on }
flag_set flags.Nsid on f = record f { nsid = on }
flag_set flags.Expire on f = record f { expire = on }

-- a part of what is written; a TTL in units is written
abbrev pub part_set : Part → Bool → Layout → Layout
part_set parts.Short on l = record l { short = on }
part_set parts.Identify on l = record l { identify = on }
part_set parts.Json on l = record l { json = on }
part_set parts.Yaml on l = record l { yaml = on }
part_set parts.Multiline on l = record l { multiline = on }
part_set parts.Ttl on l = record l { ttl = on }
part_set parts.Class on l = record l { class = on }
part_set parts.Units on l = record l { ttl = true; units = on }
part_set parts.Expanded on l = record l { expanded = on }
part_set parts.Query on l = record l { query = on }
part_set parts.Question on l = record l { question = on }
part_set parts.Answer on l = record l { answer = on }
part_set parts.Authority on l = record l { authority = on }
part_set parts.Additional on l = record l { additional = on }
part_set parts.Comments on l = record l { comments = on }
part_set parts.Stats on l = record l { stats = on }

-- all sections, comments and statistics
abbrev pub all_set : Bool → Layout → Layout
all_set on l = record l { question = on; answer = on; authority = on; additional = on; comments = on; stats = on }

-- the type that is said, or A and then AAAA
abbrev pub types_of : Option Rtype → List Rtype
types_of (Some rtype) = rtype ∷ []
types_of None = record { 0 = 1 } ∷ record { 0 = 28 } ∷ []

-- what a walk from the root asks for, and writes of each answer: as dig has it, the records that lead on, and who gave them
abbrev pub walking : Manner → Manner
walking m = record m {
  flags = record m.flags { recursion = true; dnssec = true };
  layout = record m.layout { identify = true; comments = false; stats = false; question = false; additional = false; authority = true };
}

-- the requests of a name
abbrev pub asks_of : Labels → Asking → List Ask
asks_of name asking = map (λ rtype. record { name = name; rtype = rtype; rooted = asking.rooted; manner = asking.manner }) (types_of asking.rtype)
