mod Packed
