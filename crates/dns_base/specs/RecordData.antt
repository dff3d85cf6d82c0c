-- What the data of a record says, without where it lies in memory.
use Rattle.dns_base.specs.declared.record_data.RecordData.{RecordData}
use Rattle.dns_base.specs.declared.record_data.RecordData.TheVariants as variants
use Rattle.dns_base.specs.declared.named_data.Form as declared
use Rattle.dns_base.specs.Forms.{Form}
use Rattle.dns_base.specs.Data.{Data, A, Aaaa, One, Minfo, Mx, StartOfAuthority, Service, Named, Txt, Opt, Other}

abbrev pub data_view : RecordData → Data
data_view (variants.A address) = A address
data_view (variants.Aaaa address) = Aaaa address
data_view (variants.Ns name) = One 2 name
data_view (variants.Md name) = One 3 name
data_view (variants.Mf name) = One 4 name
data_view (variants.Cname name) = One 5 name
data_view (variants.Mb name) = One 7 name
data_view (variants.Mg name) = One 8 name
data_view (variants.Mr name) = One 9 name
data_view (variants.Ptr name) = One 12 name
data_view (variants.Dname name) = One 39 name
data_view (variants.Minfo first second) = Minfo first second
data_view (variants.Mx preference name) = Mx preference name
data_view (variants.Soa mname rname serial refresh retry expire minimum) = StartOfAuthority (record {
  mname = mname;
  rname = rname;
  serial = serial.0;
  refresh = refresh.0;
  retry = retry.0;
  expire = expire.0;
  minimum = minimum.0;
})
data_view (variants.Srv priority weight port target) = Service (record { priority = priority; weight = weight; port = port; target = target })
data_view (variants.Named before first second behind) = Named (record { before = before.now; first = first; second = second; behind = behind.now })
data_view (variants.Txt octets) = Txt octets.now
data_view (variants.Opt octets) = Opt octets.now
data_view (variants.Other octets) = Other octets.now

-- the form that a form of the code is
abbrev pub form_view : declared.Form → Form
form_view it = record { octets = it.octets; strings = it.strings; has_second = it.has_second; has_rest = it.has_rest }
