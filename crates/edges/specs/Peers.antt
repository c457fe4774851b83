-- Addresses of the system, and the hosts that they name.
use Rattle.std.specs.declared.net.ip_addr.IpAddr.{IpAddr}
use Rattle.std.specs.declared.net.ip_addr.IpAddr.TheVariants as Ip
use Rattle.std.specs.declared.net.socket_addr.SocketAddr.{SocketAddr}
use Rattle.std.specs.Net.Addr.{ipv4_bits, ipv6_bits, IsIpv4OfBits, IsIpv6OfBits}
use Rattle.std.specs.Net.Socket.{socket_ip, socket_port}
use Rattle.addr_text.specs.declared.address.Addr.{Addr}
use Rattle.addr_text.specs.declared.address.Addr.TheVariants.{V4, V6}
use Rattle.addr_text.specs.declared.address.Peer.{Peer}

-- an address of the system, as a number
abbrev pub addr_of : IpAddr → Addr
addr_of (Ip.V4 ip) = V4 (ipv4_bits ip)
addr_of (Ip.V6 ip) = V6 (ipv6_bits ip)

-- who has that address of the system
abbrev pub peer_of : SocketAddr → Peer
peer_of at = record { addr = addr_of (socket_ip at); port = socket_port at }

-- an address of the system is the one of that number
abbrev pub IsIpOf : Addr → IpAddr → Type 0
IsIpOf (V4 bits) (Ip.V4 ip) = IsIpv4OfBits ip bits
IsIpOf (V4 bits) (Ip.V6 ip) = ⊥
IsIpOf (V6 bits) (Ip.V4 ip) = ⊥
IsIpOf (V6 bits) (Ip.V6 ip) = IsIpv6OfBits ip bits
