mod Sittings
