-- What a configuration is before anything is read into it.
use Rattle.std.specs.Prelude.{[], true, false}
use Rattle.dns_values.specs.declared.address.IpAddr.{IpAddr}
use Rattle.resolv_conf.specs.declared.options.ResolvOptions.{ResolvOptions}
use Rattle.resolv_conf.specs.declared.server.ServerConf.{ServerConf}
use Rattle.resolv_conf.specs.declared.server.Transport.TheVariants.{UdpTcp}

-- one dot, five seconds in microseconds, and two attempts
abbrev pub default_options : ResolvOptions
default_options = record {
  search = [];
  ndots = 1;
  timeout = 5000000;
  attempts = 2;
  aa_only = false;
  use_vc = false;
  primary = false;
  recurse = true;
  default_names = true;
  stay_open = false;
  dn_search = true;
  use_inet6 = false;
  rotate = false;
  no_check_name = false;
  keep_tsig = false;
  blast = false;
  use_bstring = false;
  use_ip6dotint = false;
  use_edns0 = false;
  single_request = false;
  single_request_reopen = false;
  no_tld_query = false;
}

-- a server at the port of the DNS, asked by datagrams and streams, with two seconds in microseconds
abbrev pub name_server : IpAddr → ServerConf
name_server ip = record {
  addr = record { ip = ip; port = 53 };
  transport = UdpTcp;
  request_timeout = 2000000;
  recv_size = 1232;
  udp_payload_size = 1232;
}
