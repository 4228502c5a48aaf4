mod OneLatch
